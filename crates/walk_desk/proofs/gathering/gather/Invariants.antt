use Rattle.std.proofs.Common.{◌≡◌, ◌-◌, ◌++◌, length, map, Vec}
use Rattle.std.specs.List.{AllZip}
use Rattle.std.specs.declared.alloc.Global.{Global}
use Rattle.walk_desk.specs.Answers.{answers_from}
use Rattle.walk_desk.specs.Posts.{Post}
use Rattle.walk_desk.specs.Seats.{Seat, places_from}
use Rattle.walk_desk.specs.declared.asks.WalkAnswer.{WalkAnswer}
use Rattle.walk_desk.proofs.gathering.gather.Given as goal

abbrev pub invariant-loop-client : goal.invariant-loop-client
invariant-loop-client g l =
    (map (λ (p : Post). p.place) l.lanes.items ≡ places_from (length l.yielded) (length l.fn.clients.items - length l.yielded))
    × AllZip (λ (s : Seat) (left : Vec WalkAnswer Global). s.answers ++ left.items ≡ answers_from (g.N.Engine.walk_of l.engine) 0 s.asks) l.yielded l.given.items
