use Rattle.std.proofs.Common.{rules, arith}
use Rattle.dart_envelope.proofs.tests.expect_flat.Goals as goal

pub new-board-requires : goal.new-board-requires
new-board-requires g c = (
  search rules,
  (
    search rules,
    (
      search rules,
      (
        search rules,
        (
          search rules,
          record {
            classes = omega arith;
            order = c.requires.run.0;
            within = c.requires.run.1;
            edges = λ rises. absurd (let flat = c.requires.flat in omega (arith, rises, flat));
            other = c.requires.other;
          },
        ),
      ),
    ),
  ),
)
