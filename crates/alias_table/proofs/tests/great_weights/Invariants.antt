use Rattle.alias_table.proofs.tests.great_weights.Given as goal

abbrev pub ghosts-tally : goal.ghosts-tally
ghosts-tally g a = record { name = a.blank.name; parts = a.blank.parts }
