use Rattle.std.proofs.Common.{◌≡◌, ◌+◌, ◌++◌, length}
use Rattle.rtrb.specs.Ring.{sent, received, known_items}
use Rattle.walk_desk.proofs.gathering.untaken.Given as goal

abbrev pub invariant-loop : goal.invariant-loop
invariant-loop l =
    (received l.answers ++ known_items l.answers ≡ sent l.from)
    × (length (known_items l.answers) + l.counter ≡ l.count)
    × (received l.initial.answers ++ l.left.items ≡ received l.answers)
