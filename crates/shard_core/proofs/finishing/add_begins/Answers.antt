use Rattle.std.proofs.Common.{◌≡◌, ◌+◌, get_or, sym, arith}
use Rattle.std.proofs.lemmas.List.{append-nil}
use Rattle.walk_model.specs.Beginnings.{begins_from}
use Rattle.shard_core.proofs.BatchLemmas.{behind-more, place-more}
use Rattle.shard_core.proofs.finishing.add_begins.Goals as goal

pub loop-count-init : goal.loop-count-init
unfolding begins_from
loop-count-init c = record { begins = sym (append-nil c.args.begins.now.items); next = omega arith }

pub loop-count-preserved : goal.loop-count-preserved
loop-count-preserved c =
    let inv = c.loop-count.invariant in
    let later : c.in-Some.place ≡ c.loop-count.next + get_or c.args.counts.now c.loop-count.count-index 0 =
    (let some = c.in-Some.ensures in omega (arith, some.1)) in
    record {
      begins = behind-more c.args.begins.now.items c.loop-count.begins.items c.push.new.self.items c.args.counts.now c.loop-count.count-index c.args.place
          c.loop-count.next c.loop-count-test.true inv.begins inv.next c.in_ok-push.ensures.items;
      next = place-more c.args.counts.now c.loop-count.count-index c.args.place c.loop-count.next c.in-Some.place c.loop-count-test.true inv.next later;
    }
