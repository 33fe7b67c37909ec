use Rattle.std.proofs.Common.{◌≡◌, ℕ, ◌<◌, ◌+◌, ◌*◌, length, slice_index}
use Rattle.walker_stream.specs.Standing.{pair_at}
use Rattle.walker_stream.proofs.generating.refill.Given as goal

abbrev pub invariant-loop-k : goal.invariant-loop-k
invariant-loop-k l = record {
  long : length l.words ≡ 32;
  moved : l.generator ≡ record l.initial.generator { word_pos = l.initial.generator.word_pos + 2 * l.k };
  held : (j : ℕ) → j < l.k → slice_index l.words j ≡ pair_at l.initial.generator.key l.initial.generator.stream (l.initial.generator.word_pos + 2 * j);
}
