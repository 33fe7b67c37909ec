use Rattle.std.proofs.Common.{◌≡◌, ◌++◌, drop}
use Rattle.std.specs.Vec.Iter.{into_iter_items, into_iter_len}
use Rattle.walk_cli.proofs.words_after_name.Given as goal

abbrev pub invariant-taking : goal.invariant-taking
invariant-taking l = l.words.items ++ into_iter_items l.rest ≡ drop 1 (into_iter_items l.fn.args)

abbrev pub decreases-taking : goal.decreases-taking
decreases-taking l = into_iter_len l.rest
