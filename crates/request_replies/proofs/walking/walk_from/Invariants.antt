use Rattle.request_replies.proofs.walking.walk_from.Given as goal

abbrev pub ghosts-counted_walk : goal.ghosts-counted_walk
ghosts-counted_walk a = record { name = a.blank.name; parts = a.blank.parts }
