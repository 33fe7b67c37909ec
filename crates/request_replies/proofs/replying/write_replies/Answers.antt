use Rattle.std.proofs.Common.{◌≡◌, ◌++◌, ℕ, List, [], Option, sym, ap, subst, ◌∙◌}
use Rattle.std.specs.Io.KnownBytes.{append_known}
use Rattle.std.proofs.lemmas.List.{append-nil}
use Rattle.path_writer.specs.Gains.{GainsFront}
use Rattle.path_writer.proofs.WaitingLemmas.{gained-waiting, front-waiting}
use Rattle.request_reader.specs.declared.requests.Request.{Request}
use Rattle.request_replies.specs.Answered.{lists_of}
use Rattle.request_replies.specs.PartWalks.{part_walk}
use Rattle.request_replies.specs.Replies.{all_replies}
use Rattle.request_replies.proofs.SessionLaws.{answered-counted}
use Rattle.request_replies.proofs.replying.write_replies.Goals as goal

pub put_files-requires : goal.put_files-requires
put_files-requires g c =
    answered-counted (part_walk c.args.names.now (record { run = c.args.run.now; part = c.args.part.now })) c.args.files.now c.in-Ok.answered.taken.items c.in-Ok.answered.left.items c.in-Ok.ensures

pub returns-in-Ok-flush-clause-whole : goal.returns-in-Ok-flush-clause-whole
returns-in-Ok-flush-clause-whole g c =
    let walks : Request → Option (List ℕ) = part_walk c.args.names.now (record { run = c.args.run.now; part = c.args.part.now }) in
    let all : List ℕ = all_replies walks (lists_of c.args.files.now) in
    gained-waiting _ _ _ (c.new-block.result ++ all) c.put_files.new.block (c.in-Ok-put_files.ensures.whole walks c.in-Ok.ensures) c.in-Ok-flush.ensures.whole
    ∙ ap (λ (l : List ℕ). append_known (g.K.Sink.bytes c.args.out.now) (l ++ all)) c.new-block.ensures

pub returns-clause-front : goal.returns-clause-front
returns-clause-front g c =
    let walks : Request → Option (List ℕ) = part_walk c.args.names.now (record { run = c.args.run.now; part = c.args.part.now }) in
    let all : List ℕ = all_replies walks (lists_of c.args.files.now) in
    front-waiting _ _ _ (c.new-block.result ++ all) c.put_files.new.block [] all
    (sym (append-nil (c.new-block.result ++ all) ∙ ap (λ (l : List ℕ). l ++ all) c.new-block.ensures)) (c.in-Ok-put_files.ensures.whole walks c.in-Ok.ensures)
    (subst (λ (l : List ℕ). GainsFront (g.K.Sink.bytes c.put_files.new.out) (g.K.Sink.bytes c.flush.new.out) l) (sym (append-nil c.put_files.new.block)) c.in-Err-flush.ensures.front)
