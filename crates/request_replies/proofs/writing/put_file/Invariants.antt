use Rattle.std.proofs.Common.{◌≡◌, ◌≤◌, ◌++◌, ℕ, List, length, take, map}
use Rattle.std.specs.Prelude.{Option}
use Rattle.std.specs.List.{concat}
use Rattle.path_writer.specs.Gains.{GainsBut}
use Rattle.request_reader.specs.declared.requests.Request.{Request}
use Rattle.request_replies.specs.Answered.{AreAnswers, good_ones}
use Rattle.request_replies.specs.Replies.{reply}
use Rattle.request_replies.proofs.writing.put_file.Given as goal

abbrev pub invariant-replying : goal.invariant-replying
invariant-replying g l = record {
  so_far : (walks : Request → Option (List ℕ)) → AreAnswers walks l.requests l.taken l.left
      → GainsBut (g.K.Sink.bytes l.initial.out) (g.K.Sink.bytes l.out) (l.initial.block ++ concat (map (reply walks) (take l.k l.requests))) l.block;
  next : l.next ≡ length (good_ones (take l.k l.requests));
  later : g.K.Sink.faults l.initial.out ≤ g.K.Sink.faults l.out;
}
