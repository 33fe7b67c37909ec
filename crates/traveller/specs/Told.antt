-- The classes of edges as a reply tells them.
use Rattle.std.specs.Prelude.{ℕ, Bool, List, map}
use Rattle.node2vec_walk.specs.Nearness.{class_to}

-- the classes of edges to some destinations after a step from t, by which ends are near
abbrev pub told_classes : (ℕ → Bool) → ℕ → List ℕ → List ℕ
told_classes near t dsts = map (λ x. class_to x t (near x)) dsts
