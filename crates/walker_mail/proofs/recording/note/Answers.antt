use Rattle.std.proofs.Common.{◌≡◌, ◌∙◌, take}
use Rattle.std.proofs.lemmas.List.{take_all}
use Rattle.walker_mail.proofs.PostLemmas.{letters_of_parcel}
use Rattle.walker_mail.proofs.recording.note.Goals as goal

pub returns : goal.returns
returns g c =
    let items = c.deref-item-items.result.now in
    let all : take c.loop-item.item-index items ≡ c.args.parcel.now.items.items =
    take_all c.loop-item.item-index items c.loop-item-test.false ∙ c.deref-item-items.ensures.value in
    rw (letters_of_parcel g.I.Mail.description c.args.parcel.now.from c.args.parcel.now.to c.args.parcel.now.items.items)
    (rw all at c.loop-item.invariant)
