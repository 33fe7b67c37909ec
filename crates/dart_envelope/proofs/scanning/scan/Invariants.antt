use Rattle.std.proofs.Common.{ℕ, List, length}
use Rattle.dart_envelope.specs.Scans.{AnswersAre}
use Rattle.dart_envelope.proofs.ScanLemmas.{IsScanned}
use Rattle.dart_envelope.proofs.scanning.scan.Given as goal

abbrev pub invariant-loop-edge : goal.invariant-loop-edge
invariant-loop-edge g l =
    (fs : List ℕ) → AnswersAre (goal.F-post g l.factors) (length l.weights) fs
    → IsScanned l.weights fs l.z l.left l.edge
