use Rattle.std.proofs.Common.{◌≡◌, ◌≤◌, ℕ, List, [], length, map, drop}
use Rattle.walk_io.specs.Files.{Told}
use Rattle.walk_model.specs.declared.faults.WalkFault.{WalkFault}
use Rattle.request_replies.specs.Answered.{AreAllShort, lists_of}
use Rattle.walk_top.specs.Verdicts.{MayBe}
use Rattle.walk_top.specs.Stages.{Stage, IsFaultIn}
use Rattle.walk_top.specs.ServeVerdicts.{requests_after}
use Rattle.walk_top.proofs.ServeLemmas.{GoOn}
use Rattle.walk_top.proofs.request_files.find_requests.Given as goal

abbrev pub invariant-files : goal.invariant-files
invariant-files g l = record {
  count : length l.all.items ≡ l.k;
  short : AreAllShort l.all.items;
  goes_on : GoOn (g.F.Files.told l.initial.files) (map (λ n. n.now) l.names) l.k (lists_of l.all.items);
  kept : (n : List ℕ) → g.F.Files.told l.files n ≡ g.F.Files.told l.initial.files n;
  later : (n : List ℕ) → g.F.Files.faults l.initial.files n ≤ g.F.Files.faults l.files n;
}
