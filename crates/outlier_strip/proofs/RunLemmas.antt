-- Places in rounds.
use Rattle.std.proofs.Common.{ℕ, ◌*◌, ◌/◌, ◌<◌, ◌≤◌, arith}
use Rattle.std.proofs.Math.Nat.{mul-le-mul_left}

-- a place of so many rounds lies in one of them
pub div-below : (z n k : ℕ) → 1 ≤ n → z < n * k → z / n < k
div-below z n k some h = grind (arith, mul-le-mul_left)
