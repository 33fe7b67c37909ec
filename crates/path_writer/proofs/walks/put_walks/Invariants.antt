use Rattle.std.proofs.Common.{◌≤◌, ◌++◌, take, map}
use Rattle.std.specs.List.{concat}
use Rattle.path_writer.specs.Gains.{GainsBut}
use Rattle.path_writer.proofs.TextLemmas.{line_by}
use Rattle.path_writer.proofs.walks.put_walks.Given as goal

abbrev pub invariant-loop-i : goal.invariant-loop-i
invariant-loop-i g l = record {
  so_far : GainsBut (g.K.Sink.bytes l.initial.out) (g.K.Sink.bytes l.out) (l.initial.block ++ concat (map (line_by l.names) (take l.i l.finished))) l.block;
  later : g.K.Sink.faults l.initial.out ≤ g.K.Sink.faults l.out;
}
