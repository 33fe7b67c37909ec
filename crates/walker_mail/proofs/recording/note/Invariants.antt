use Rattle.std.proofs.Common.{◌≡◌, ◌++◌, take, map}
use Rattle.walker_mail.proofs.recording.note.Given as goal

abbrev pub invariant-loop-item : goal.invariant-loop-item
invariant-loop-item g l = l.letters.items ≡ l.initial.letters.items ++ map g.I.Mail.description (take l.item-index l.item-items)
