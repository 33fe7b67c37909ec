use Rattle.std.proofs.Common.{◌≤◌, ◌++◌, ℕ, List, take, map}
use Rattle.std.specs.Prelude.{Option}
use Rattle.std.specs.List.{concat}
use Rattle.path_writer.specs.Gains.{GainsBut}
use Rattle.request_reader.specs.declared.requests.Request.{Request}
use Rattle.request_replies.specs.Answered.{AreAllAnswered}
use Rattle.request_replies.proofs.ReplyLaws.{file_replies}
use Rattle.request_replies.proofs.writing.put_files.Given as goal

abbrev pub invariant-files : goal.invariant-files
invariant-files g l = record {
  so_far : (walks : Request → Option (List ℕ)) → AreAllAnswered walks l.files l.answered.taken.items l.answered.left.items
      → GainsBut (g.K.Sink.bytes l.initial.out) (g.K.Sink.bytes l.out) (l.initial.block ++ concat (map (file_replies walks) (take l.k l.files))) l.block;
  later : g.K.Sink.faults l.initial.out ≤ g.K.Sink.faults l.out;
}
