use Rattle.std.proofs.Common.{◌≡◌, ◌++◌, map}
use Rattle.walker_mail.specs.Posts.{posted_item}
use Rattle.walker_mail.proofs.unpacking.unpack.Given as goal

abbrev pub invariant-loop-item : goal.invariant-loop-item
invariant-loop-item g l = l.kept.items ≡ l.initial.kept.items ++ map (posted_item l.from l.to) l.yielded
