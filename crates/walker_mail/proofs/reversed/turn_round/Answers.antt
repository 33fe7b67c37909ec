use Rattle.std.proofs.Common.{rules, arith}
use Rattle.std.proofs.lemmas.Grind.{common_steps}
use Rattle.walker_mail.proofs.PostLemmas.{turned_more, turned_all}
use Rattle.walker_mail.proofs.reversed.turn_round.Goals as goal

pub returns : goal.returns
returns g c =
    rw c.reverse-2.ensures.after
    (turned_all c.args.parcels.now c.loop-parcel.parcels c.loop-parcel.parcel-index c.loop-parcel-test.false c.loop-parcel.invariant)

pub loop-parcel-preserved : goal.loop-parcel-preserved
loop-parcel-preserved g c =
    turned_more c.args.parcels.now c.loop-parcel.parcels c.loop-parcel.parcel-index c.parcel-item.result _ (omega arith) c.loop-parcel.auto.parcels
    c.loop-parcel.invariant c.parcel-item.is (search rules) (search rules) (grind (arith, common_steps))
