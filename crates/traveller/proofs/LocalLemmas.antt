-- A step that asks no other part is one on the whole graph.
use Rattle.std.proofs.Common.{◌≡◌, ℕ, zero, suc, ◌+◌, true, List, Option, Some, None, refl, ap, ◌∙◌, arith}
use Rattle.std.specs.Prelude.{◌==◌, if◌then◌else◌}
use Rattle.std.proofs.lemmas.Bool.Decides.{nat_tests}
use Rattle.walk_model.specs.declared.graph.Edge.{Edge}
use Rattle.walk_model.specs.declared.programme.Rule.{Rule}
use Rattle.walk_model.specs.declared.programme.Rule.TheVariants.{Plain, Scheme, Node2vec}
use Rattle.walk_model.specs.declared.states.State.{State}
use Rattle.walk_model.specs.Settings.{Settings}
use Rattle.walk_model.specs.Graph.{row}
use Rattle.walk_model.specs.Factor.{factor, node_factor, return_factor, common_factor, far_factor}
use Rattle.walk_model.specs.Dart.{Board, board_of, darts, hit, or_next}
use Rattle.walk_model.specs.Cuts.{owner}
use Rattle.walk_model.specs.Letters.{Journey}
use Rattle.csr_store.specs.RowGraph.{RowGraph}
use Rattle.csr_store.proofs.ListLemmas.{map-same}
use Rattle.vertex_partition.specs.PartViews.{PartView, Owns, IsPartOf}
use Rattle.traveller.specs.Turns.{asker_by, chosen_or_over, dart_mode, throws}
use Rattle.traveller.specs.Locals.{IsLocal}

-- darts that ask nothing come to the edge that is hit, or that is scanned
pub throws-alone : (n : ℕ) (b : Board) (words : ℕ → ℕ) (place : ℕ) → throws n None b words place ≡ chosen_or_over (darts n b words place)
unfolding throws darts
throws-alone zero b words place = refl
throws-alone (suc n) b words place = next (hit b (words place)) (throws-alone n b words (place + 1))
  where
    next : (o : Option ℕ) → throws n None b words (place + 1) ≡ chosen_or_over (darts n b words (place + 1))
        → dart_mode None o n place (throws n None b words (place + 1)) ≡ chosen_or_over (or_next o place (darts n b words (place + 1)))
    next None later = later
    next (Some edge) later = refl

-- the factors on the graph are those on the part
factor-same : (g : RowGraph) (p : PartView) (rule : Rule) (previous : Option ℕ) (phase : ℕ) → IsPartOf g p → IsLocal p rule previous
    → (e : Edge) → factor p.edges rule previous phase e ≡ factor g.edges rule previous phase e
unfolding factor node_factor
factor-same g p Plain previous phase of local e = refl
factor-same g p (Scheme kinds) previous phase of local e = refl
factor-same g p (Node2vec a b) None phase of local e = refl
factor-same g p (Node2vec a b) (Some t) phase of local e =
    ap (λ near. if e.dst == t then return_factor a b else (if near then common_factor a b else far_factor a b)) (of.has t e.dst local)

board-of-row : (g : RowGraph) (p : PartView) (plan : Settings) (s : State) (out : List Edge) → IsPartOf g p → IsLocal p plan.rule s.previous
    → board_of p.edges plan s out ≡ board_of g.edges plan s out
unfolding board_of
board-of-row g p plan s out of local =
    rw (map-same (factor p.edges plan.rule s.previous s.phase) (factor g.edges plan.rule s.previous s.phase)
    (factor-same g p plan.rule s.previous s.phase of local) out) refl

-- and so is the board
pub board-same : (g : RowGraph) (p : PartView) (plan : Settings) (s : State) → IsPartOf g p → Owns p s.at → IsLocal p plan.rule s.previous
    → board_of p.edges plan s (row p.edges s.at) ≡ board_of g.edges plan s (row g.edges s.at)
board-same g p plan s of here local =
    ap (board_of p.edges plan s) (of.rows s.at here) ∙ board-of-row g p plan s (row g.edges s.at) of local

-- nobody has to be asked
pub asker-none : (j : Journey) (p : PartView) (s : State) (rule : Rule) (previous : Option ℕ) → ((v : ℕ) → j.owner v ≡ owner p.cuts v)
    → Owns p s.at → IsLocal p rule previous → asker_by j s rule previous ≡ None
asker-none j p s Plain previous owners here local = refl
asker-none j p s (Scheme kinds) previous owners here local = refl
asker-none j p s (Node2vec a b) None owners here local = refl
asker-none j p s (Node2vec a b) (Some t) owners here local =
    let first : j.owner t ≡ p.part = owners t ∙ local.owner_is in
    let second : j.owner s.at ≡ p.part = owners s.at ∙ here.owner_is in
    let same : (j.owner t == j.owner s.at) ≡ true = grind (arith, nat_tests) in
    rw same refl
