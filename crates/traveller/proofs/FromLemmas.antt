-- The choice from a row, asked of this part or of another.
use Rattle.std.proofs.Common.{◌≡◌, ℕ, List, length, Option, None, ap, sym, ◌∙◌}
use Rattle.std.specs.Prelude.{◌==◌, if◌then◌else◌}
use Rattle.walk_model.specs.declared.graph.Edge.{Edge}
use Rattle.walk_model.specs.declared.programme.Rule.{Rule}
use Rattle.walk_model.specs.declared.programme.Rule.TheVariants.{Plain, Scheme}
use Rattle.walk_model.specs.declared.states.State.{State}
use Rattle.walk_model.specs.Settings.{Settings}
use Rattle.walk_model.specs.Graph.{row}
use Rattle.walk_model.specs.Dart.{Board, board_of}
use Rattle.walk_model.specs.Letters.{Journey, Asker}
use Rattle.csr_store.specs.RowGraph.{RowGraph}
use Rattle.vertex_partition.specs.PartViews.{PartView, Owns, IsPartOf}
use Rattle.traveller.specs.declared.modes.Mode.{Mode}
use Rattle.traveller.specs.declared.modes.Mode.TheVariants.{Over}
use Rattle.traveller.specs.Askers.{GoesBy}
use Rattle.traveller.specs.Locals.{IsLocal, local_mode, row_mode}
use Rattle.traveller.specs.Turns.{asker_at, asker_by, board_at, row_at}
use Rattle.traveller.proofs.LocalLemmas.{throws-alone, asker-none, board-same}

-- what a walker goes by, as its part and the rule tell it
pub by-goes : {X : Type 0} (F : Option Asker → Board → List Edge → X) (g : RowGraph) (p : PartView) (plan : Settings) (words : ℕ → ℕ) (j : Journey) (s : State) (r : Option Asker)
    → GoesBy g p plan words j → asker_by j s plan.rule s.previous ≡ r
    → F (asker_at j s) (board_at j s) (row_at j s) ≡ F r (board_of g.edges plan s (row g.edges s.at)) (row g.edges s.at)
by-goes F g p plan words j s r goes is =
    ap (λ (a : Option Asker). F a (board_at j s) (row_at j s))
    (ap (λ (q : Settings). asker_by j s q.rule s.previous) goes.plan_is ∙ is)
    ∙ ap (λ (es : List Edge). F r (board_of es j.course.plan s (row es s.at)) (row es s.at)) goes.edges
    ∙ ap (λ (q : Settings). F r (board_of g.edges q s (row g.edges s.at)) (row g.edges s.at)) goes.plan_is

-- where no other part has to be asked
pub by-local : {X : Type 0} (F : Option Asker → Board → List Edge → X) (g : RowGraph) (p : PartView) (plan : Settings) (words : ℕ → ℕ) (j : Journey) (s : State)
    → IsPartOf g p → GoesBy g p plan words j → Owns p s.at → IsLocal p plan.rule s.previous
    → F (asker_at j s) (board_at j s) (row_at j s) ≡ F None (board_of p.edges plan s (row p.edges s.at)) (row p.edges s.at)
by-local F g p plan words j s of goes here local =
    by-goes F g p plan words j s None goes (asker-none j p s plan.rule s.previous goes.owners here local)
    ∙ sym (ap (λ (b : Board). F None b (row g.edges s.at)) (board-same g p plan s of here local))
    ∙ sym (ap (λ (out : List Edge). F None (board_of p.edges plan s (row p.edges s.at)) out) (of.rows s.at here))

-- so the choice is that of the darts
pub row-local : (g : RowGraph) (p : PartView) (plan : Settings) (words : ℕ → ℕ) (j : Journey) (s : State) (n place : ℕ) → IsPartOf g p
    → GoesBy g p plan words j → Owns p s.at → IsLocal p plan.rule s.previous
    → row_mode n (asker_at j s) (board_at j s) (row_at j s) words place
    ≡ local_mode n (board_of p.edges plan s (row p.edges s.at)) (row p.edges s.at) words place
row-local g p plan words j s n place of goes here local =
    by-local (λ r b out. row_mode n r b out words place) g p plan words j s of goes here local
    ∙ ap (λ (m : Mode). if length (row p.edges s.at) == 0 then Over else m) (throws-alone n (board_of p.edges plan s (row p.edges s.at)) words place)

-- a rule without a part to ask
pub local-plain : (p : PartView) (rule : Rule) (previous : Option ℕ) → rule ≡ Plain → IsLocal p rule previous
local-plain p rule previous is = rw is tt

pub local-scheme : (p : PartView) (rule : Rule) (previous : Option ℕ) (kinds : List ℕ) → rule ≡ Scheme kinds → IsLocal p rule previous
local-scheme p rule previous kinds is = rw is tt
