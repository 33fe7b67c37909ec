use Rattle.std.proofs.Common.{◌≡◌, ◌≤◌, ◌-◌, length, take}
use Rattle.std.specs.Io.KnownBytes.{append_known}
use Rattle.path_writer.proofs.writing.write_all.Given as goal

abbrev pub invariant-writing : goal.invariant-writing
invariant-writing g l = record {
  gained : g.K.Sink.bytes l.sink ≡ append_known (g.K.Sink.bytes l.initial.sink) (take l.done l.text);
  within : l.done ≤ length l.text;
  later : g.K.Sink.faults l.initial.sink ≤ g.K.Sink.faults l.sink;
}

abbrev pub decreases-writing : goal.decreases-writing
decreases-writing g l = length l.text - l.done
