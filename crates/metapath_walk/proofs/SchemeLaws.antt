-- Classes by type tell the factors of a walk by a scheme.
use Rattle.std.proofs.Common.{◌≡◌, ℕ, zero, suc, ◌<◌, Bool, true, false, List, [], ◌∷◌, length, map, get_or, refl, arith, ap, sym, ◌∙◌}
use Rattle.std.specs.Prelude.{◌==◌, if◌then◌else◌, slice_index, Option, Some, None, IfSome, All}
use Rattle.walk_model.specs.declared.graph.Edge.{Edge}
use Rattle.walk_model.specs.declared.programme.Rule.TheVariants.{Scheme}
use Rattle.walk_model.specs.declared.states.State.{State}
use Rattle.walk_model.specs.Settings.{Settings}
use Rattle.walk_model.specs.Graph.{weights_of, ends_of}
use Rattle.walk_model.specs.Factor.{wanted_kind, factor}
use Rattle.walk_model.specs.Dart.{height_of, lift_of, ends_below, ends_at, board_of, darts}
use Rattle.factor_table.proofs.FlatBoardLaws.{flat_board, darts-flat}
use Rattle.csr_store.specs.declared.out_edge.OutEdge.{OutEdge}
use Rattle.csr_store.specs.OutEdges.{out_edge, kinds_of}
use Rattle.metapath_walk.specs.TypeClasses.{class_of_type, classes_of_types, known_of_types, type_classes, known_class, AreSchemeFactors}

-- 1 and 0 are the factors of the two classes
pub scheme_factors-are : AreSchemeFactors (1 ∷ 0 ∷ [])
unfolding factor height_of
scheme_factors-are = record {
  factor_of = λ edges kinds previous phase e. by_test (e.kind == wanted_kind kinds phase);
  height = λ kinds previous. refl;
}
  where
    by_test : (b : Bool) → slice_index (1 ∷ 0 ∷ []) (if b then 0 else 1) ≡ (if b then 1 else 0)
    by_test true = refl
    by_test false = refl

pub ruleset scheme_laws = (scheme_factors-are)

-- the classes of a row's types are those of its edges
pub types-classes : (wanted : ℕ) (out : List Edge)
    → classes_of_types wanted (kinds_of out) ≡ type_classes wanted (map out_edge out)
types-classes wanted [] = refl
types-classes wanted (e ∷ es) = ap (λ l. class_of_type e.kind wanted ∷ l) (types-classes wanted es)

-- and so is what is known of them
pub types-known : (wanted : ℕ) (out : List Edge)
    → known_of_types wanted (kinds_of out) ≡ map (known_class wanted) (map out_edge out)
types-known wanted [] = refl
types-known wanted (e ∷ es) = ap (λ l. Some (class_of_type e.kind wanted) ∷ l) (types-known wanted es)

-- the factors of the classes of some edges are the factors of the edges
pub factors-by_type : (edges : List Edge) (kinds : List ℕ) (previous : Option ℕ) (phase : ℕ) (out : List Edge)
    → map (slice_index (1 ∷ 0 ∷ [])) (type_classes (wanted_kind kinds phase) (map out_edge out))
    ≡ map (factor edges (Scheme kinds) previous phase) out
factors-by_type edges kinds previous phase [] = refl
factors-by_type edges kinds previous phase (e ∷ es) =
    rw (scheme_factors-are.factor_of edges kinds previous phase e)
    (ap (λ fs. factor edges (Scheme kinds) previous phase e ∷ fs) (factors-by_type edges kinds previous phase es))

-- there are two classes
pub type_classes-below : (wanted : ℕ) (out : List OutEdge) → All (λ c. c < 2) (type_classes wanted out)
type_classes-below wanted [] k d h = absurd (omega arith)
type_classes-below wanted (e ∷ es) zero d h = below (e.kind == wanted)
  where
    below : (b : Bool) → (if b then 0 else 1) < 2
    below true = omega arith
    below false = omega arith
type_classes-below wanted (e ∷ es) (suc k) d h = type_classes-below wanted es k d (omega arith)

-- the class of each edge is known
pub class-known : (wanted k : ℕ) (out : List OutEdge) → k < length out
    → get_or (map (known_class wanted) out) k None ≡ Some (slice_index (type_classes wanted out) k)
class-known wanted k [] h = absurd (omega arith)
class-known wanted zero (e ∷ es) h = refl
class-known wanted (suc k) (e ∷ es) h = class-known wanted k es (omega arith)

-- and it has a factor
pub known-below : (wanted k : ℕ) (out : List OutEdge) → IfSome (get_or (map (known_class wanted) out) k None) (λ class. class < 2)
known-below wanted k [] = tt
known-below wanted zero (e ∷ es) = by_test (e.kind == wanted)
  where
    by_test : (b : Bool) → (if b then 0 else 1) < 2
    by_test true = omega arith
    by_test false = omega arith
known-below wanted (suc k) (e ∷ es) = known-below wanted k es

-- a choice by a scheme is one by the board of the two classes
pub darts-scheme : (n : ℕ) (edges : List Edge) (plan : Settings) (s : State) (kinds : List ℕ) (out : List Edge) (words : ℕ → ℕ) (place : ℕ)
    → plan.rule ≡ Scheme kinds
    → darts n (board_of edges plan s out) words place
    ≡ darts n (flat_board (weights_of plan.weighted out)
    (map (slice_index (1 ∷ 0 ∷ [])) (type_classes (wanted_kind kinds s.phase) (map out_edge out))) 1 0 0) words place
unfolding board_of height_of lift_of
darts-scheme n edges plan s kinds out words place is =
    let ws = weights_of plan.weighted out in
    rw is
    (darts-flat n ws (map (factor edges (Scheme kinds) s.previous s.phase) out) 1
    (ends_below s.previous (ends_of out)) (ends_at s.previous (ends_of out)) words place
    ∙ sym (ap (λ fs. darts n (flat_board ws fs 1 0 0) words place) (factors-by_type edges kinds s.previous s.phase out)))
