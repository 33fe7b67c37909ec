use Rattle.std.proofs.Common.{◌++◌, ◌∙◌, ap, sym}
use Rattle.superstep.proofs.BoxLemmas.{items-in-all}
use Rattle.superstep.proofs.seats.unpack.Goals as goal

pub unpacking-preserved : goal.unpacking-preserved
unpacking-preserved c =
    c.in_ok-append.ensures.items ∙ ap (λ l. l ++ c.in-Some.parcel.items.items) c.unpacking.invariant
    ∙ sym (items-in-all c.unpacking.yielded c.in-Some.parcel)
