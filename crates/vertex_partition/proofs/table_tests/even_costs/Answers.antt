use Rattle.std.proofs.Common.{List, ℕ, length, ap, ◌∙◌}
use Rattle.std.specs.Prelude.{sum}
use Rattle.std.proofs.lemmas.List.{length-replicate}
use Rattle.std.proofs.lemmas.List.Folds.{sum_by-replicate}
use Rattle.vertex_partition.proofs.table_tests.even_costs.Goals as goal

pub returns-clause-vertices : goal.returns-clause-vertices
returns-clause-vertices c =
    ap (λ (l : List ℕ). length l) (c.in_ok-costs.ensures.items_if_clones_equal (λ y h. h)) ∙ length-replicate {A = ℕ} 5000 1

pub returns-clause-sum : goal.returns-clause-sum
returns-clause-sum c =
    ap (λ (l : List ℕ). sum l) (c.in_ok-costs.ensures.items_if_clones_equal (λ y h. h)) ∙ sum_by-replicate {X = ℕ} (λ n. n) 5000 1
