use Rattle.query_batch.proofs.tests.answers.Given as goal

abbrev pub ghosts-expect_all : goal.ghosts-expect_all
ghosts-expect_all g a = record { name = a.blank.name; parts = a.blank.parts }
