use Rattle.std.proofs.Common.{◌≡◌, ◌+◌, List, ℕ, length, drop}
use Rattle.dart_envelope.specs.Scans.{AnswersAre, total_of}
use Rattle.dart_envelope.proofs.scanning.scan_total.Given as goal

abbrev pub invariant-loop-edge : goal.invariant-loop-edge
invariant-loop-edge g l =
    (fs : List ℕ) → AnswersAre (goal.F-post g l.factors) (length l.weights) fs
    → l.total + total_of (drop l.edge l.weights) (drop l.edge fs) ≡ total_of l.weights fs
