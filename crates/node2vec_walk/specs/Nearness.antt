-- The classes of edges by what they are to the previous vertex.
use Rattle.std.specs.Prelude.{◌≡◌, ℕ, ◌-◌, ◌==◌, Bool, if◌then◌else◌, List, [], ◌∷◌, Option, Some, None, map, drop, slice_index}
use Rattle.walk_model.specs.declared.graph.Edge.{Edge}
use Rattle.walk_model.specs.declared.programme.Fraction.{Fraction}
use Rattle.walk_model.specs.declared.programme.Rule.TheVariants.{Node2vec}
use Rattle.walk_model.specs.Graph.{has_edge}
use Rattle.walk_model.specs.Factor.{factor, greatest_factor, return_factor, common_factor, far_factor}
use Rattle.walk_model.specs.Dart.{height_of, lift_of}
use Rattle.csr_store.specs.declared.out_edge.OutEdge.{OutEdge}
use Rattle.factor_table.specs.Factors.{greatest_of, least_of}

-- the class of an edge to x after a step from t: 0 where it goes back to t, else 1 where x is near,
-- that is where there is an edge from t to x, and 2 where x is far
abbrev pub class_to : ℕ → ℕ → Bool → ℕ
class_to x t near = if x == t then 0 else (if near then 1 else 2)

-- the classes of a row's edges after a step from t
abbrev pub classes_after : List Edge → ℕ → List OutEdge → List ℕ
classes_after edges t row = map (λ e. class_to e.dst t (has_edge edges t e.dst)) row

-- what is known of the class of an edge to x without asking: that it is 0 where it goes back to t
abbrev pub known_to : ℕ → ℕ → Option ℕ
known_to x t = if x == t then Some 0 else None

-- what a row knows of the class of one of its edges
abbrev pub known_class : ℕ → OutEdge → Option ℕ
known_class t e = known_to e.dst t

-- the heights at which a dart wants to know an edge's class: from the least factor of the classes other
-- than class 0 up to below the greatest
abbrev pub zone_of : List ℕ → ℕ × ℕ
zone_of fs = (least_of (drop 1 fs), greatest_of (drop 1 fs))

-- the factors of the three classes
abbrev pub class_factors : Fraction → Fraction → List ℕ
class_factors p q = return_factor p q ∷ common_factor p q ∷ far_factor p q ∷ []

-- the factors of the classes are those of a walk by p and q: an edge has the factor of its class; the
-- greatest of all and of those other than class 0, and what class 0 has beyond them, are the bounds
-- of a board
pub record AreNodeFactors (p q : Fraction) (fs : List ℕ) : Type 0 where
  pub factor_of : (edges : List Edge) (t phase : ℕ) (e : Edge)
      → slice_index fs (class_to e.dst t (has_edge edges t e.dst)) ≡ factor edges (Node2vec p q) (Some t) phase e
  pub greatest : greatest_of fs ≡ greatest_factor (Node2vec p q)
  pub height : (t : ℕ) → greatest_of (drop 1 fs) ≡ height_of (Node2vec p q) (Some t)
  pub lift : (t : ℕ) → slice_index fs 0 - greatest_of (drop 1 fs) ≡ lift_of (Node2vec p q) (Some t)
