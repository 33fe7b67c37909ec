use Rattle.std.proofs.Common.{◌≡◌, suc, ◌<◌, ◌%◌, ◌∷◌, drop, length, arith, add-one, refl, sym}
use Rattle.std.proofs.lemmas.Grind.{common_steps}
use Rattle.std.specs.List.{AllZip}
use Rattle.superstep.specs.Rounding.{HasTurned}
use Rattle.superstep.specs.Share.{share}
use Rattle.superstep.proofs.ShareLemmas.{share-next, share-skip, set-row}
use Rattle.superstep.proofs.workers.gather.Goals as goal

pub unreachable-requires : goal.unreachable-requires
unreachable-requires c =
    let row = c.index_mut.result.now in
    let at = c.gathering.k % c.args.workers in
    let inside : c.gathering.k < length c.args.was.value.items = omega arith in
    let inv = c.gathering.invariant.rest at row (omega arith) in
    let next = share-next at c.args.workers c.gathering.k c.args.was.value.items _ inside refl inv in
    grind (arith, common_steps)

pub gathering-preserved : goal.gathering-preserved
gathering-preserved c =
    let row = c.index_mut.result.now in
    let at = c.gathering.k % c.args.workers in
    let inside : c.gathering.k < length c.args.was.value.items = omega arith in
    let inv = c.gathering.invariant.rest at row (omega arith) in
    let next = share-next at c.args.workers c.gathering.k c.args.was.value.items _ inside refl inv in
    let taken : row.items ≡ c.in-Some.seat ∷ c.pop_front.new.self.items = grind (arith, common_steps) in
    let same : next.0 ≡ c.in-Some.seat = cc in
    let rest : next.1 ≡ c.pop_front.new.self.items = cc in
    let many : at < length c.gathering.done.items = grind (arith, common_steps) in
    rw add-one (record {
      long = c.gathering.invariant.long;
      rest = λ w d low. set-row (λ q. AllZip HasTurned (share w c.args.workers (suc c.gathering.k) (drop (suc c.gathering.k) c.args.was.value.items)) q.items)
          c.gathering.done.items at w c.pop_front.new.self d many
          (λ here. rw here (let e : AllZip HasTurned (share at c.args.workers (suc c.gathering.k) (drop (suc c.gathering.k) c.args.was.value.items)) c.pop_front.new.self.items = rw rest at (next.4) in e))
          (λ there. share-skip w c.args.workers c.gathering.k c.args.was.value.items _ inside (λ e. there (sym e)) (c.gathering.invariant.rest w d low));
      front = let more = next.3 c.gathering.ordered.items c.gathering.invariant.front in rw (c.in_ok-push.ensures.items, ← same) more;
    })
