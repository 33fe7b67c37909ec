use Rattle.std.proofs.Common.{◌≡◌, ◌≤◌, ℕ, List, Option, Vec, length, refl, ap, sym, subst, ◌∙◌, arith}
use Rattle.std.specs.declared.alloc.Global.{Global}
use Rattle.std.specs.Io.KnownBytes.{append_known}
use Rattle.walk_io.specs.Files.{Told}
use Rattle.path_writer.specs.Gains.{GainsFront}
use Rattle.request_reader.specs.declared.requests.Request.{Request}
use Rattle.request_replies.specs.Answered.{AreAllShort, lists_of}
use Rattle.request_replies.specs.PartWalks.{part_walk}
use Rattle.request_replies.specs.Replies.{all_replies}
use Rattle.walk_top.specs.Jobs.{texts}
use Rattle.walk_top.specs.Verdicts.{Finding}
use Rattle.walk_top.specs.Outcomes.{cause_of}
use Rattle.walk_top.specs.ServeVerdicts.{ServeTask, serve_verdict, serve_output}
use Rattle.walk_top.proofs.CauseLemmas.{ends-well, accepted-is}
use Rattle.walk_top.proofs.ServeCauses.{begins, leaves-untouched}
use Rattle.walk_top.proofs.ServeWalks.{ready-replies}
use Rattle.walk_top.proofs.serving.serve.Goals as goal

pub returns-in-Err-clause-cause : goal.returns-in-Err-clause-cause
returns-in-Err-clause-cause g c = c.in-Err.ensures.cause (g.K.Sink.faults c.args.out.now) (g.K.Sink.faults c.args.out.now)

pub returns-in-Ok-write_replies-clause-text : goal.returns-in-Ok-write_replies-clause-text
returns-in-Ok-write_replies-clause-text g c =
    let s = c.in-Ok.ensures.served in
    let told : List ℕ → Told = g.F.Files.told c.args.files.now in
    let v : Finding ServeTask = serve_verdict (texts c.args.words.now) told in
    let walks : Request → Option (List ℕ) = part_walk c.in-Ok.served.ready.names (record { run = c.in-Ok.served.ready.run; part = c.in-Ok.served.ready.part }) in
    let written : all_replies walks (lists_of c.as_slice-requests.result.now) ≡ serve_output s.task =
    ap (λ (fs : List (Vec (Option Request) Global)). all_replies walks (lists_of fs)) c.as_slice-requests.ensures.value ∙ ap (all_replies walks) s.requests
    ∙ ready-replies s.task.graph s.task.plan s.task.job.seed s.task.job.seed c.in-Ok.served.ready s.task.requests s.ready refl in
    accepted-is v s.task (λ task. g.K.Sink.bytes c.write_replies.new.out ≡ append_known (g.K.Sink.bytes c.args.out.now) (serve_output task)) s.may
    (c.in-Ok-write_replies.ensures.whole ∙ ap (append_known (g.K.Sink.bytes c.args.out.now)) written)

pub returns-in-Err-Failed-clause-sink : goal.returns-in-Err-Failed-clause-sink
returns-in-Err-Failed-clause-sink g c =
    let s = c.in-Ok.ensures.served in
    let told : List ℕ → Told = g.F.Files.told c.args.files.now in
    let v : Finding ServeTask = serve_verdict (texts c.args.words.now) told in
    let walks : Request → Option (List ℕ) = part_walk c.in-Ok.served.ready.names (record { run = c.in-Ok.served.ready.run; part = c.in-Ok.served.ready.part }) in
    let written : all_replies walks (lists_of c.as_slice-requests.result.now) ≡ serve_output s.task =
    ap (λ (fs : List (Vec (Option Request) Global)). all_replies walks (lists_of fs)) c.as_slice-requests.ensures.value ∙ ap (all_replies walks) s.requests
    ∙ ready-replies s.task.graph s.task.plan s.task.job.seed s.task.job.seed c.in-Ok.served.ready s.task.requests s.ready refl in
    begins g.K.Sink.bytes v c.args.out.now c.write_replies.new.out s.task s.may
    (subst (λ (bytes : List ℕ). GainsFront (g.K.Sink.bytes c.args.out.now) (g.K.Sink.bytes c.write_replies.new.out) bytes) written c.in-Err-Failed.ensures.front)

pub returns-clause-sink : goal.returns-clause-sink
returns-clause-sink g c =
    let s = c.in-Ok.ensures.served in
    let told : List ℕ → Told = g.F.Files.told c.args.files.now in
    let v : Finding ServeTask = serve_verdict (texts c.args.words.now) told in
    let walks : Request → Option (List ℕ) = part_walk c.in-Ok.served.ready.names (record { run = c.in-Ok.served.ready.run; part = c.in-Ok.served.ready.part }) in
    let written : all_replies walks (lists_of c.as_slice-requests.result.now) ≡ serve_output s.task =
    ap (λ (fs : List (Vec (Option Request) Global)). all_replies walks (lists_of fs)) c.as_slice-requests.ensures.value ∙ ap (all_replies walks) s.requests
    ∙ ready-replies s.task.graph s.task.plan s.task.job.seed s.task.job.seed c.in-Ok.served.ready s.task.requests s.ready refl in
    begins g.K.Sink.bytes v c.args.out.now c.write_replies.new.out s.task s.may
    (subst (λ (bytes : List ℕ). GainsFront (g.K.Sink.bytes c.args.out.now) (g.K.Sink.bytes c.write_replies.new.out) bytes) written c.in-Err-Memory.ensures.front)
