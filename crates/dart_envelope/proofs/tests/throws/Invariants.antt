use Rattle.dart_envelope.proofs.tests.throws.Given as goal

abbrev pub ghosts-throw_at_all : goal.ghosts-throw_at_all
ghosts-throw_at_all g a = record { name = a.blank.name; parts = a.blank.parts }
