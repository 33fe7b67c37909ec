use Rattle.std.proofs.Common.{rules, ◌≡◌, ℕ, zero, suc, ◌<◌, ◌≤◌, [], ◌∷◌, refl, arith, Some, None}
use Rattle.std.specs.Prelude.{◌↔◌, slice_index_or, Option}
use Rattle.dart_envelope.proofs.tests.two_return_edges.Goals as goal

-- both edges go back
both : (edge : ℕ) → edge < 2
    → (slice_index_or {A = Option ℕ} (Some 0 ∷ Some 0 ∷ []) edge None ≡ Some 0) ↔ ((0 ≤ edge) × (edge < 2))
both zero h = (λ e. (omega arith, omega arith), λ w. refl)
both (suc zero) h = (λ e. (omega arith, omega arith), λ w. refl)
both (suc (suc edge)) h = absurd (omega arith)

pub new-board-requires : goal.new-board-requires
new-board-requires g c = (
  search rules,
  (
    search rules,
    (
      search rules,
      (
        search rules,
        (
          search rules,
          record {
            classes = omega arith;
            order = omega arith;
            within = omega arith;
            edges = λ rises. both;
            other = rw c.new-factors.ensures (0, 4, omega arith, refl, omega arith);
          },
        ),
      ),
    ),
  ),
)
