use Rattle.std.proofs.Common.{◌≡◌, ◌+◌, take}
use Rattle.std.specs.Prelude.{sum_by}
use Rattle.walk_top.specs.ServeVerdicts.{entries_of}
use Rattle.walk_top.proofs.request_files.room_after.Given as goal

abbrev pub invariant-requests : goal.invariant-requests
invariant-requests l = l.left + sum_by (entries_of l.names) (take l.k l.requests) ≡ l.room
