-- A walker that must ask another part.
use Rattle.std.specs.Prelude.{◌≡◌, ℕ, List, Option, Some}
use Rattle.walk_model.specs.declared.states.State.{State}
use Rattle.walk_model.specs.declared.programme.Rule.{Rule}
use Rattle.walk_model.specs.declared.programme.Rule.TheVariants.{Node2vec}
use Rattle.walk_model.specs.Settings.{Settings}
use Rattle.walk_model.specs.Graph.{row, ends_of}
use Rattle.walk_model.specs.Cuts.{owner}
use Rattle.walk_model.specs.Letters.{Asker, Journey}
use Rattle.csr_store.specs.RowGraph.{RowGraph}
use Rattle.vertex_partition.specs.PartViews.{PartView}
use Rattle.traveller.specs.declared.ruling.TypedFactors.TheVariants as typed
use Rattle.traveller.specs.RuleFactors.{AreTyped}

-- it asks by the fractions of the rule, about the ends of the row where it stands, after a vertex
pub record IsAsker (g : RowGraph) (plan : Settings) (s : State) (back : ℕ) (a : Asker) : Type 0 where
  pub rule : plan.rule ≡ Node2vec a.p a.q
  pub before : a.before ≡ back
  pub ends : a.ends ≡ ends_of (row g.edges s.at)

-- a walker goes by a graph, a plan and words, among the owners of a part
pub record GoesBy (g : RowGraph) (p : PartView) (plan : Settings) (words : ℕ → ℕ) (j : Journey) : Type 0 where
  pub edges : j.course.edges ≡ g.edges
  pub plan_is : j.course.plan ≡ plan
  pub words_are : j.course.words ≡ words
  pub owners : (v : ℕ) → j.owner v ≡ owner p.cuts v

-- under node2vec with these factors, another part owns the vertex before
pub record IsAway (p : PartView) (rule : Rule) (previous : Option ℕ) (back : ℕ) (factors : List ℕ) : Type 0 where
  pub factors_are : AreTyped rule (typed.Node2vec factors)
  pub before : previous ≡ Some back
  pub other : owner p.cuts back ≡ p.part → ⊥
