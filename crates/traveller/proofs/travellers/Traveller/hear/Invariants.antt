use Rattle.traveller.proofs.travellers.Traveller.hear.Given as goal

abbrev pub ghosts-hear_edge : goal.ghosts-hear_edge
ghosts-hear_edge a = record { name = a.blank.name; parts = a.blank.parts }
