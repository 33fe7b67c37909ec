use Rattle.std.proofs.Common.{◌≤◌, ◌-◌, ◌++◌, length, take}
use Rattle.path_writer.specs.Gains.{GainsBut}
use Rattle.path_writer.specs.Named.{later}
use Rattle.path_writer.proofs.walks.put_later.Given as goal

abbrev pub invariant-putting : goal.invariant-putting
invariant-putting g l = record {
  so_far : GainsBut (g.K.Sink.bytes l.initial.out) (g.K.Sink.bytes l.out) (l.initial.block ++ later l.names (take l.done l.ranks)) l.block;
  within : l.done ≤ length l.ranks;
  later : g.K.Sink.faults l.initial.out ≤ g.K.Sink.faults l.out;
}

abbrev pub decreases-putting : goal.decreases-putting
decreases-putting g l = length l.ranks - l.done
