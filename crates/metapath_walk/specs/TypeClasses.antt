-- The classes of edges by their type.
use Rattle.std.specs.Prelude.{◌≡◌, ℕ, ◌==◌, if◌then◌else◌, List, Option, Some, map, slice_index}
use Rattle.walk_model.specs.declared.graph.Edge.{Edge}
use Rattle.walk_model.specs.declared.programme.Rule.TheVariants.{Scheme}
use Rattle.walk_model.specs.Factor.{wanted_kind, factor}
use Rattle.walk_model.specs.Dart.{height_of}
use Rattle.csr_store.specs.declared.out_edge.OutEdge.{OutEdge}
use Rattle.csr_store.specs.OutEdges.{out_edge}
use Rattle.factor_table.specs.Factors.{greatest_of}

-- the class of an edge of a type: 0 where that is the wanted type, else 1
abbrev pub class_of_type : ℕ → ℕ → ℕ
class_of_type kind wanted = if kind == wanted then 0 else 1

-- the classes of edges of some types
abbrev pub classes_of_types : ℕ → List ℕ → List ℕ
classes_of_types wanted kinds = map (λ kind. class_of_type kind wanted) kinds

-- what is known of these classes: all
abbrev pub known_of_types : ℕ → List ℕ → List (Option ℕ)
known_of_types wanted kinds = map (λ kind. Some (class_of_type kind wanted)) kinds

-- the class of an edge
abbrev pub type_class : ℕ → OutEdge → ℕ
type_class wanted e = class_of_type e.kind wanted

-- the classes of a row's edges
abbrev pub type_classes : ℕ → List OutEdge → List ℕ
type_classes wanted row = map (type_class wanted) row

-- what a row knows of an edge's class: all
abbrev pub known_class : ℕ → OutEdge → Option ℕ
known_class wanted e = Some (type_class wanted e)

-- the factors of the classes are those of a walk by a scheme: an edge has the factor of its class,
-- and the greatest of them is the height of a board
pub record AreSchemeFactors (fs : List ℕ) : Type 0 where
  pub factor_of : (edges : List Edge) (kinds : List ℕ) (previous : Option ℕ) (phase : ℕ) (e : Edge)
      → slice_index fs (type_class (wanted_kind kinds phase) (out_edge e)) ≡ factor edges (Scheme kinds) previous phase e
  pub height : (kinds : List ℕ) (previous : Option ℕ) → greatest_of fs ≡ height_of (Scheme kinds) previous
