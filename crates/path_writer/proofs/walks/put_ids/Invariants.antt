use Rattle.std.proofs.Common.{◌≤◌, ◌++◌, take, map}
use Rattle.std.specs.List.{concat}
use Rattle.path_writer.specs.Gains.{GainsBut}
use Rattle.path_writer.specs.Named.{spaced}
use Rattle.path_writer.proofs.walks.put_ids.Given as goal

abbrev pub invariant-loop-id : goal.invariant-loop-id
invariant-loop-id g l = record {
  so_far : GainsBut (g.K.Sink.bytes l.initial.out) (g.K.Sink.bytes l.out) (l.initial.block ++ concat (map spaced (take l.id-index l.ids))) l.block;
  later : g.K.Sink.faults l.initial.out ≤ g.K.Sink.faults l.out;
}
