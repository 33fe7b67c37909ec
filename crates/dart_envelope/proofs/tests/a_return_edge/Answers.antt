use Rattle.std.proofs.Common.{rules, ◌≡◌, ℕ, zero, suc, ◌<◌, ◌≤◌, [], ◌∷◌, refl, arith, Some, None}
use Rattle.std.specs.Prelude.{◌↔◌, slice_index_or, Option}
use Rattle.dart_envelope.proofs.tests.a_return_edge.Goals as goal

-- the first edge alone goes back
first_alone : (edge : ℕ) → edge < 3
    → (slice_index_or {A = Option ℕ} (Some 0 ∷ None ∷ None ∷ []) edge None ≡ Some 0) ↔ ((0 ≤ edge) × (edge < 1))
first_alone zero h = (λ e. (omega arith, omega arith), λ w. refl)
first_alone (suc zero) h = (λ e. cc, λ w. absurd (omega arith))
first_alone (suc (suc zero)) h = (λ e. cc, λ w. absurd (omega arith))
first_alone (suc (suc (suc edge))) h = absurd (omega arith)

pub new-board-requires : goal.new-board-requires
new-board-requires g c = (
  search rules,
  (
    search rules,
    (
      search rules,
      (
        search rules,
        (
          search rules,
          record {
            classes = omega arith;
            order = omega arith;
            within = omega arith;
            edges = λ rises. first_alone;
            other = rw c.new-factors.ensures (0, 4, omega arith, refl, omega arith);
          },
        ),
      ),
    ),
  ),
)
