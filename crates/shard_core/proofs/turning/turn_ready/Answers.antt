use Rattle.std.proofs.Common.{◌≡◌, ◌<◌, ◌≤◌, ◌+◌, [], ◌∷◌, ◌++◌, List, length, map, refl, ap, sym, subst, ◌∙◌, arith, append-nil}
use Rattle.walk_model.specs.declared.results.Print.{Print}
use Rattle.vertex_partition.specs.PartViews.{PartView}
use Rattle.traveller.specs.declared.runs.Run.{Run}
use Rattle.traveller.specs.Walkers.{Walker}
use Rattle.world_law.specs.Worlds.{Printed, Resident}
use Rattle.shard_core.specs.Leaving.{IsMore}
use Rattle.shard_core.specs.Offers.{BecomesIn}
use Rattle.shard_core.specs.Turning.{turned_pieces}
use Rattle.shard_core.proofs.SettleLemmas.{none-turned, pass-more, prints-then, all-done}
use Rattle.shard_core.proofs.turning.turn_ready.Goals as goal

pub turning-init : goal.turning-init
turning-init g c = record {
  lanes = c.in_ok-lanes.ensures.ready;
  can = c.in_ok-lanes.ensures.rest;
  few = c.in_ok-lanes.ensures.few;
  full = c.in_ok-lanes.ensures.full;
  left = c.requires.left;
  prints = ([], sym (append-nil c.args.prints.now.prints));
  becomes =
      none-turned c.args.here.now.run c.args.here.now.part c.args.ready.items c.args.left.now c.args.prints.now.prints c.in_ok-lanes.lanes.items c.first_lanes.new.ready.items
      c.in_ok-lanes.ensures.same;
}

pub turning-preserved : goal.turning-preserved
turning-preserved g c =
    let run : Run = c.args.here.now.run in
    let part : PartView = c.args.here.now.part in
    let inv = c.turning.invariant in
    let ws : List Walker = c.turning.lanes.items in
    let ps : List Print = c.turning.prints.prints in
    let turned : List Walker = c.turn_pass.new.lanes.items in
    let qs : List Print = c.turn_pass.new.prints.prints in
    let kept : c.make_room.new.self.prints ≡ ps = c.make_room.ensures.prints in
    let long = c.turning.lanes.ok.0 in
    let some : 0 < length ws = omega (arith, long, c.len.ensures, c.turning-test.true) in
    let more : IsMore ps qs = rw kept at c.turn_pass.ensures.prints in
    let pass : BecomesIn run part (map (Resident part.part) ws ++ map (Printed part.part) ps) (turned_pieces part turned ++ map (Printed part.part) qs) =
    rw kept at c.turn_pass.ensures.becomes in
    record {
      lanes = c.in_ok-settle.ensures.lanes;
      can = c.in_ok-settle.ensures.rest;
      few = omega (arith, inv.few, c.turn_pass.ensures.long, c.in_ok-settle.ensures.few);
      full = λ left. (let same = c.in_ok-settle.ensures.full left in omega (arith, some, same, c.turn_pass.ensures.long));
      left = c.in_ok-settle.ensures.left;
      prints = prints-then c.args.prints.now.prints ps qs inv.prints more;
      becomes =
          pass-more run part c.args.ready.items c.args.left.now c.args.prints.now.prints ws c.turning.ready.items c.turning.left ps turned qs c.settle.new.lanes.items
          c.settle.new.ready.items c.settle.new.left pass c.in_ok-settle.ensures.same inv.becomes;
    }

pub returns-clause-becomes : goal.returns-clause-becomes
returns-clause-becomes g c =
    let long = c.turning.lanes.ok.0 in
    all-done c.args.here.now.run c.args.here.now.part c.args.ready.items c.args.left.now c.args.prints.now.prints c.turning.lanes.items c.turning.ready.items c.turning.left
    c.turning.prints.prints (omega (arith, long, c.len.ensures, c.turning-test.false)) c.turning.invariant.full c.turning.invariant.becomes
