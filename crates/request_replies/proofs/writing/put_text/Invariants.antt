use Rattle.std.proofs.Common.{◌≤◌, ◌++◌, take, map}
use Rattle.std.specs.List.{concat}
use Rattle.path_writer.specs.Gains.{GainsBut}
use Rattle.request_replies.proofs.ReplyLaws.{single}
use Rattle.request_replies.proofs.writing.put_text.Given as goal

abbrev pub invariant-loop-b : goal.invariant-loop-b
invariant-loop-b g l = record {
  so_far : GainsBut (g.K.Sink.bytes l.initial.out) (g.K.Sink.bytes l.out) (l.initial.block ++ concat (map single (take l.b-index l.text))) l.block;
  later : g.K.Sink.faults l.initial.out ≤ g.K.Sink.faults l.out;
}
