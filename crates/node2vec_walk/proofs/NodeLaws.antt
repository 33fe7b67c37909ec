-- Classes by nearness tell the factors of node2vec.
use Rattle.std.proofs.Common.{◌≡◌, ℕ, zero, suc, ◌-◌, ◌*◌, ◌<◌, ◌≤◌, ◌⊎◌, inl, inr, Bool, true, false, List, [], ◌∷◌, length, map, drop, get_or, refl, arith, ap}
use Rattle.std.specs.Prelude.{◌==◌, if◌then◌else◌, slice_index, Option, Some, None, IfSome, Any}
use Rattle.std.proofs.Math.Nat.{one-le-mul}
use Rattle.walk_model.specs.declared.graph.Edge.{Edge}
use Rattle.walk_model.specs.declared.programme.Fraction.{Fraction}
use Rattle.walk_model.specs.declared.programme.Rule.TheVariants.{Node2vec}
use Rattle.walk_model.specs.declared.states.State.{State}
use Rattle.walk_model.specs.Settings.{Settings}
use Rattle.walk_model.specs.Graph.{has_edge, weights_of, ends_of}
use Rattle.walk_model.specs.Factor.{factor, node_factor, greatest_factor, return_factor, common_factor, far_factor}
use Rattle.walk_model.specs.Dart.{Board, height_of, lift_of, ends_below, ends_at, board_of}
use Rattle.csr_store.specs.declared.out_edge.OutEdge.{OutEdge}
use Rattle.csr_store.specs.OutEdges.{out_edge}
use Rattle.factor_table.specs.Factors.{greatest_of}
use Rattle.node2vec_walk.specs.Nearness.{classes_after, known_class, class_factors, AreNodeFactors}

-- the factors of the three classes are those of the rule
pub class_factors-are : (p q : Fraction) → AreNodeFactors p q (class_factors p q)
unfolding factor node_factor greatest_factor height_of lift_of
class_factors-are p q = record {
  factor_of = λ edges t phase e. by_tests (e.dst == t) (has_edge edges t e.dst);
  greatest = omega arith;
  height = λ t. omega arith;
  lift = λ t. omega arith;
}
  where
    by_tests : (back near : Bool) → slice_index (class_factors p q) (if back then 0 else (if near then 1 else 2))
        ≡ (if back then return_factor p q else (if near then common_factor p q else far_factor p q))
    by_tests true near = refl
    by_tests false true = refl
    by_tests false false = refl

pub ruleset node_laws = (class_factors-are)

-- the factors of the classes of some edges are the factors of the edges
pub factors-by_class : (edges : List Edge) (p q : Fraction) (t phase : ℕ) (out : List Edge)
    → map (slice_index (class_factors p q)) (classes_after edges t (map out_edge out))
    ≡ map (factor edges (Node2vec p q) (Some t) phase) out
factors-by_class edges p q t phase [] = refl
factors-by_class edges p q t phase (e ∷ es) =
    rw ((class_factors-are p q).factor_of edges t phase e)
    (ap (λ fs. factor edges (Node2vec p q) (Some t) phase e ∷ fs) (factors-by_class edges p q t phase es))

-- there are three classes
pub class-below : (edges : List Edge) (t k : ℕ) (out : List OutEdge) → k < length out
    → slice_index (classes_after edges t out) k < 3
class-below edges t k [] h = absurd (omega arith)
class-below edges t zero (e ∷ es) h = by_tests (e.dst == t) (has_edge edges t e.dst)
  where
    by_tests : (back near : Bool) → (if back then 0 else (if near then 1 else 2)) < 3
    by_tests true near = omega arith
    by_tests false true = omega arith
    by_tests false false = omega arith
class-below edges t (suc k) (e ∷ es) h = class-below edges t k es (omega arith)

-- a class that is known is the edge's; where none is known, it isn't class 0
pub class-known : (edges : List Edge) (t k : ℕ) (out : List OutEdge) → k < length out
    → (get_or (map (known_class t) out) k None ≡ Some (slice_index (classes_after edges t out) k))
    ⊎ ((get_or (map (known_class t) out) k None ≡ None) × (1 ≤ slice_index (classes_after edges t out) k))
class-known edges t k [] h = absurd (omega arith)
class-known edges t zero (e ∷ es) h = by_tests (e.dst == t) (has_edge edges t e.dst)
  where
    by_tests : (back near : Bool)
        → (◌≡◌ {A = Option ℕ} (if back then Some 0 else None) (Some (if back then 0 else (if near then 1 else 2))))
        ⊎ ((◌≡◌ {A = Option ℕ} (if back then Some 0 else None) None) × (1 ≤ (if back then 0 else (if near then 1 else 2))))
    by_tests true near = inl refl
    by_tests false true = inr (refl, omega arith)
    by_tests false false = inr (refl, omega arith)
class-known edges t (suc k) (e ∷ es) h = class-known edges t k es (omega arith)

-- class 0 is the only one that is known
pub known-below : (t k : ℕ) (out : List OutEdge) → IfSome (get_or (map (known_class t) out) k None) (λ class. class < 3)
known-below t k [] = tt
known-below t zero (e ∷ es) = by_test (e.dst == t)
  where
    by_test : (back : Bool) → IfSome (if◌then◌else◌ {A = Option ℕ} back (Some 0) None) (λ class. class < 3)
    by_test true = omega arith
    by_test false = tt
known-below t (suc k) (e ∷ es) = known-below t k es

-- a class other than class 0 has a factor
pub others-some : (p q : Fraction) → 1 ≤ p.top → 1 ≤ q.top → Any (λ f. 1 ≤ f) (drop 1 (class_factors p q))
others-some p q hp hq =
    let some : 1 ≤ p.top * q.top = one-le-mul hp hq in
    (0, common_factor p q, omega arith, refl, some)

-- a board of three classes: the height is the greatest factor of the classes other than class 0, and
-- the factor of class 0 may rise above it over a run of edges
abbrev pub node_board : List ℕ → List ℕ → List ℕ → ℕ → ℕ → Board
node_board weights factors classes from count = record {
  weights = weights;
  factors = map (slice_index factors) classes;
  height = greatest_of (drop 1 factors);
  lift = slice_index factors 0 - greatest_of (drop 1 factors);
  back_from = from;
  back_count = count;
}

-- the board after a step from t is that of the three classes over the run back to t
pub board-after : (edges : List Edge) (plan : Settings) (s : State) (p q : Fraction) (t : ℕ) (out : List Edge)
    → plan.rule ≡ Node2vec p q → s.previous ≡ Some t
    → board_of edges plan s out
    ≡ node_board (weights_of plan.weighted out) (class_factors p q) (classes_after edges t (map out_edge out))
    (ends_below (Some t) (ends_of out)) (ends_at (Some t) (ends_of out))
unfolding board_of
board-after edges plan s p q t out is from =
    rw (is, from, factors-by_class edges p q t s.phase out, (class_factors-are p q).lift t, (class_factors-are p q).height t) refl
