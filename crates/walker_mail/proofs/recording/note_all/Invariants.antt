use Rattle.std.proofs.Common.{◌≡◌, ◌++◌, take}
use Rattle.walker_mail.specs.Posts.{all_items, letters_of}
use Rattle.walker_mail.proofs.recording.note_all.Given as goal

abbrev pub invariant-loop-parcel : goal.invariant-loop-parcel
invariant-loop-parcel g l = l.letters.items ≡ l.initial.letters.items ++ letters_of g.I.Mail.description (all_items (take l.parcel-index l.parcels))
