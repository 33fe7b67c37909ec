use Rattle.std.proofs.Common.{◌≡◌, ◌+◌, take}
use Rattle.std.specs.Prelude.{sum_by}
use Rattle.walk_model.specs.declared.limits.TheConstants.{MAX_PATH_ENTRIES}
use Rattle.walk_top.proofs.ServeLemmas.{file_entries}
use Rattle.walk_top.proofs.request_files.are_within.Given as goal

abbrev pub invariant-files : goal.invariant-files
invariant-files l = l.room + sum_by (file_entries l.names) (take l.k l.files) ≡ MAX_PATH_ENTRIES
