use Rattle.traveller.proofs.tests.expect_walk.Given as goal

abbrev pub ghosts-turns_by : goal.ghosts-turns_by
ghosts-turns_by g a = record { name = a.blank.name; parts = a.blank.parts }
