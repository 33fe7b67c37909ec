use Rattle.std.proofs.Common.{arith}
use Rattle.std.proofs.lemmas.List.{places}
use Rattle.walker_stream.proofs.reader.put_last.Goals as goal

pub returns : goal.returns
returns c = λ k few. rw c.copy_from_slice.ensures.after (grind (arith, places, c.told-words, c.told-last))
