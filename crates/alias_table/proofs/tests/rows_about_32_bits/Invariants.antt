use Rattle.alias_table.proofs.tests.rows_about_32_bits.Given as goal

abbrev pub ghosts-tally : goal.ghosts-tally
ghosts-tally g a = record { name = a.blank.name; parts = a.blank.parts }
