use Rattle.walk_desk.specs.Opening.{lines_of}
use Rattle.request_replies.specs.Answered.{request_in}
use Rattle.request_replies.specs.PartWalks.{part_walk}
use Rattle.request_replies.proofs.replying.answer_files.Given as goal

abbrev pub ghosts-ask_files : goal.ghosts-ask_files
ghosts-ask_files g a = record { lines = lines_of a.rings; walk = λ w. part_walk a.engine.names.now a.engine.here (request_in w) }
