use Rattle.std.proofs.Common.{rules, ◌≡◌, ℕ, zero, suc, ◌<◌, ◌≤◌, [], ◌∷◌, refl, arith, Some, None}
use Rattle.std.specs.Prelude.{◌↔◌, slice_index_or, Option}
use Rattle.dart_envelope.proofs.tests.a_run_behind_others.Goals as goal

-- all but the first edge go back
behind : (edge : ℕ) → edge < 3
    → (slice_index_or {A = Option ℕ} (None ∷ Some 0 ∷ Some 0 ∷ []) edge None ≡ Some 0) ↔ ((1 ≤ edge) × (edge < 3))
behind zero h = (λ e. cc, λ w. absurd (omega arith))
behind (suc zero) h = (λ e. (omega arith, omega arith), λ w. refl)
behind (suc (suc zero)) h = (λ e. (omega arith, omega arith), λ w. refl)
behind (suc (suc (suc edge))) h = absurd (omega arith)

pub new-board-requires : goal.new-board-requires
new-board-requires g c = (
  search rules,
  (
    search rules,
    (
      search rules,
      (
        search rules,
        (
          search rules,
          record {
            classes = omega arith;
            order = omega arith;
            within = omega arith;
            edges = λ rises. behind;
            other = rw c.new-factors.ensures (0, 4, omega arith, refl, omega arith);
          },
        ),
      ),
    ),
  ),
)
