use Rattle.std.proofs.Common.{◌+◌, ap, ◌∙◌, length, arith}
use Rattle.traveller.specs.PartedRuns.{letters_in}
use Rattle.traveller.specs.Standing.{parted}
use Rattle.world_law.specs.Worlds.{world_pieces}
use Rattle.shard_core.specs.SoundWorlds.{world_data}
use Rattle.superstep.specs.ToPost.{to_post}
use Rattle.superstep.proofs.SumLemmas.{sum_below-alike}
use Rattle.superstep.proofs.EndLemmas.{begun-posted, logged-alike}
use Rattle.superstep.proofs.running.run_counted.Goals as goal

pub returns-clause-carried : goal.returns-clause-carried
returns-clause-carried g c h run cuts begun =
    let p = parted h run cuts in
    c.in_ok-finished.ensures.carried h run cuts begun.sound
    ∙ ap (λ n. g.C.Carrier.carried c.args.carrier.now + n)
    (sum_below-alike p.walkers (λ i. length (to_post p (world_pieces (world_data c.args.world)) i)) (λ i. length (letters_in p i))
    (λ i low. ap length (begun-posted h run cuts c.args.world begun i low)))

pub returns-clause-logged : goal.returns-clause-logged
returns-clause-logged g c h run cuts begun =
    let p = parted h run cuts in
    logged-alike p.walkers (to_post p (world_pieces (world_data c.args.world))) (letters_in p) (g.C.Carrier.log c.args.carrier.now) (g.C.Carrier.log c.go_to_the_end.new.carrier)
    (begun-posted h run cuts c.args.world begun) (c.in_ok-finished.ensures.logged h run cuts begun.sound)

pub returns-clause-counted : goal.returns-clause-counted
returns-clause-counted g c h run cuts begun =
    let p = parted h run cuts in
    let all = c.in_ok-finished.ensures.carried h run cuts begun.sound in
    let same = sum_below-alike p.walkers (λ i. length (to_post p (world_pieces (world_data c.args.world)) i)) (λ i. length (letters_in p i))
    (λ i low. ap length (begun-posted h run cuts c.args.world begun i low)) in
    omega (arith, all, same, c.in_ok-finished.ensures.total)
