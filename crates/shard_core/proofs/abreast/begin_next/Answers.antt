use Rattle.std.proofs.Common.{◌≡◌, ◌+◌, ◌++◌, ◌∷◌, [], List, ℕ, refl, ap, sym, subst, ◌∙◌}
use Rattle.std.specs.Prelude.{sum_by}
use Rattle.walk_model.specs.declared.results.Print.{Print}
use Rattle.traveller.specs.Runs.{start_rank}
use Rattle.traveller.specs.Walkers.{Walker, first_walker}
use Rattle.traveller.specs.declared.runs.Run.{Run}
use Rattle.shard_core.specs.Abreast.{IsOnWay, heft, first_heft}
use Rattle.shard_core.proofs.AbreastLemmas.{first-way, first-hefts}
use Rattle.shard_core.proofs.abreast.begin_next.Goals as goal

pub returns-clause-on_way : goal.returns-clause-on_way
returns-clause-on_way c =
    let run : Run = c.args.here.now.run in
    let start : ℕ = start_rank run.plan.start run.vertices run.start c.args.number in
    let first : c.traveller_of-traveller.result ≡ first_walker c.args.number start run.plan.length = rw c.run.ensures.run at c.traveller_of-traveller.ensures.first in
    let within = rw (c.run.ensures.run, first) at c.traveller_of-traveller.ensures.within in
    subst (IsOnWay run c.args.here.now.part) (sym first)
    (first-way run c.args.here.now.part c.args.number start run.plan.length c.run.ensures.suits c.requires.all within.start)

pub returns-clause-hefts : goal.returns-clause-hefts
returns-clause-hefts c = λ h graph of.
    let run : Run = c.args.here.now.run in
    let start : ℕ = start_rank run.plan.start run.vertices run.start c.args.number in
    let first : c.traveller_of-traveller.result ≡ first_walker c.args.number start run.plan.length = rw c.run.ensures.run at c.traveller_of-traveller.ensures.first in
    let at : c.at.result ≡ start = c.at.ensures ∙ ap (λ (w : Walker). w.state.at) first in
    let pushed : c.push.new.self.prints ≡ c.args.prints.now.prints ++ record { walker = c.args.number; step = 0; at = start } ∷ [] =
    c.push.ensures.prints ∙ ap (λ n. c.args.prints.now.prints ++ record { walker = c.args.number; step = 0; at = n } ∷ []) at in
    ap (λ (ps : List Print). sum_by h ps + heft h graph run c.args.here.now.part c.traveller_of-traveller.result + first_heft h graph run c.args.here.now.part c.args.number) pushed
    ∙ ap (λ (w : Walker). sum_by h (c.args.prints.now.prints ++ record { walker = c.args.number; step = 0; at = start } ∷ []) + heft h graph run c.args.here.now.part w
    + first_heft h graph run c.args.here.now.part c.args.number) first
    ∙ first-hefts h graph run c.args.here.now.part c.args.number start c.args.prints.now.prints refl
