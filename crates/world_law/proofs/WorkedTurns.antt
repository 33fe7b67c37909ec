-- The first turns of a walker on a cycle under node2vec with no darts, three parts.
use Rattle.std.proofs.Common.{◌≡◌, List, [], ◌∷◌, refl, true, false, Some}
use Rattle.rand_chacha.specs.Block.{block_word, double_rounds, column_round, diagonal_round, quarter_round}
use Rattle.rand_core.specs.Steps.{u32_at}
use Rattle.walk_model.specs.declared.graph.Edge.{Edge}
use Rattle.walk_model.specs.declared.messages.Question.TheVariants as question
use Rattle.walk_model.specs.declared.programme.Fraction.{Fraction}
use Rattle.walk_model.specs.declared.programme.Rule.TheVariants.{Node2vec}
use Rattle.walk_model.specs.declared.programme.StartRule.TheVariants.{Each}
use Rattle.walk_model.specs.Ratio.{never}
use Rattle.walk_model.specs.Graph.{row, with_edge, weights_of, ends_of, with_number}
use Rattle.walk_model.specs.Factor.{factor, node_factor}
use Rattle.walk_model.specs.Dart.{board_of, height_of, lift_of, ends_below, ends_at, scanned, darts}
use Rattle.walk_model.specs.Words.{draw_within, fold_word, coin, word, key_bytes}
use Rattle.walk_model.specs.Lists.{first_above, products}
use Rattle.walk_model.specs.Cuts.{owner}
use Rattle.traveller.specs.declared.modes.Mode.TheVariants.{Fresh, AskedRow, Chosen}
use Rattle.traveller.specs.PartedRuns.{PartedRun}
use Rattle.traveller.specs.Walkers.{Walker, first_walker}
use Rattle.traveller.specs.Turns.{throws, begun, advance}
use Rattle.traveller.specs.Replies.{rising, found_in, hear}

cycle : List Edge
cycle =
    record { src = 0; dst = 1; weight = 1; kind = 0 }
    ∷ record { src = 1; dst = 2; weight = 1; kind = 0 }
    ∷ record { src = 2; dst = 0; weight = 1; kind = 0 } ∷ []

half : Fraction
half = record { top = 1; bottom = 2 }

double : Fraction
double = record { top = 2; bottom = 1 }

run : PartedRun
unfolding cycle half double
run = record {
  edges = cycle;
  plan = record {
    weighted = true;
    undirected = false;
    length = 3;
    start = Each;
    retries = 0;
    stop = never;
    restart = never;
    rule = Node2vec half double;
  };
  seed = 7;
  owner = owner (1 ∷ 2 ∷ []);
  walkers = 3;
  start = λ i. i;
}

-- after one step it stands at 1
first_turn : Walker
first_turn = record {
  number = 0;
  start = 0;
  length = 3;
  state = record { at = 1; previous = Some 0; phase = 1; steps = 1; place = 1 };
  mode = Fresh;
}

turns_first : advance run (first_walker 0 0 3) ≡ first_turn
unfolding run cycle half double first_turn begun throws coin row with_edge ends_of weights_of board_of factor node_factor height_of
    lift_of ends_below ends_at darts scanned first_above products draw_within fold_word word key_bytes block_word double_rounds
    column_round diagonal_round quarter_round u32_at
turns_first = refl

-- then it must ask for the row of 0
turns_second : advance run first_turn ≡ record first_turn { mode = AskedRow 1 (question.Row 0) }
unfolding run cycle half double first_turn begun throws coin row with_edge ends_of weights_of board_of factor node_factor height_of
    lift_of ends_below ends_at darts scanned first_above products draw_within fold_word word key_bytes block_word double_rounds
    column_round diagonal_round quarter_round u32_at
turns_second = refl

-- the reply decides its one edge
turns_third : hear run (record first_turn { mode = AskedRow 1 (question.Row 0) }) (found_in cycle (question.Row 0))
    ≡ record first_turn { mode = Chosen 0 2 }
unfolding run cycle half double first_turn rising with_number row with_edge ends_of weights_of board_of factor node_factor height_of
    lift_of ends_below ends_at scanned first_above products draw_within fold_word word key_bytes block_word double_rounds
    column_round diagonal_round quarter_round u32_at
turns_third = refl
