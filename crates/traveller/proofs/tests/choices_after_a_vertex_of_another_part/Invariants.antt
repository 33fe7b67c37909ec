use Rattle.traveller.proofs.tests.choices_after_a_vertex_of_another_part.Given as goal

abbrev pub ghosts-choice_after : goal.ghosts-choice_after
ghosts-choice_after g a = record { name = a.blank.name; parts = a.blank.parts }
