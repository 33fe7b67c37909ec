use Rattle.std.proofs.Common.{◌≡◌, ◌+◌, ◌++◌, List, length}
use Rattle.rtrb.specs.Ring.{sent, received, known_items}
use Rattle.walk_desk.specs.Answers.{answers_from}
use Rattle.walk_desk.specs.declared.asks.WalkAnswer.{WalkAnswer}
use Rattle.walk_desk.proofs.gathering.add_rest.Given as goal

abbrev pub invariant-loop : goal.invariant-loop
invariant-loop g l =
    (received l.asks ++ known_items l.asks ≡ sent l.from)
    × (length (known_items l.asks) + l.counter ≡ l.count)
    × (l.number ≡ length (received l.asks))
    × ((before : List WalkAnswer) → answers_from (g.N.Engine.walk_of l.engine) 0 (received l.initial.asks) ≡ before ++ l.initial.left.items → answers_from (g.N.Engine.walk_of l.engine) 0 (received l.asks) ≡ before ++ l.left.items)
