use Rattle.std.proofs.Common.{◌++◌, ◌∷◌, [], sym, subst}
use Rattle.std.specs.List.{AllZip}
use Rattle.std.proofs.lemmas.Slice.Zip.{all_zipped_more}
use Rattle.superstep.specs.Rounding.{HasTurned}
use Rattle.superstep.proofs.workers.work.Goals as goal

pub working-preserved : goal.working-preserved
working-preserved g c =
    subst (AllZip HasTurned (c.working.yielded ++ c.in-Some.seat ∷ [])) (sym c.in_ok-push_back.ensures.items)
    (all_zipped_more HasTurned c.working.yielded c.working.done.items c.in-Some.seat c.in_ok-turned.turned c.working.invariant c.in_ok-turned.ensures)
