use Rattle.std.proofs.Common.{◌≡◌, length, map, vec_len, arith, ap, ◌∙◌}
use Rattle.std.proofs.lemmas.Grind.{common_steps}
use Rattle.walk_desk.specs.Seats.{Seat, new_seats, places_from}
use Rattle.walk_desk.proofs.PlaceLaws.{seats-places, seats-length}
use Rattle.walk_desk.proofs.opening.DeskRings.start.Goals as goal

-- src/opening.rt:65:5
pub returns-clause-places : goal.returns-clause-places
returns-clause-places g c =
    let capacity = c.args.self.capacity in
    let seats = c.in_ok-lanes.seats in
    let n = vec_len c.args.self.ends in
    let same : seats.items ≡ new_seats capacity 0 n = c.in_ok-lanes.ensures.clients capacity c.args.self.even in
    let many : length seats.items ≡ n = ap length same ∙ seats-length capacity 0 n in
    let long : n ≡ vec_len seats = grind (arith, common_steps) in
    ap (map (λ (s : Seat). s.place)) same ∙ seats-places capacity 0 n ∙ ap (places_from 0) long
