use Rattle.std.proofs.Common.{◌≡◌, ℕ, List, true, false, refl, sym, subst, ◌∙◌}
use Rattle.std.specs.Prelude.{OnErr, OnOk}
use Rattle.std.specs.Io.KnownBytes.{append_known}
use Rattle.walk_model.specs.Text.{text}
use Rattle.traveller.specs.Standing.{parted}
use Rattle.path_writer.specs.Gains.{GainsFront}
use Rattle.path_writer.specs.Named.{named}
use Rattle.walk_top.specs.Jobs.{asks_report, parts_of, seed_of}
use Rattle.walk_top.specs.JobViews.{job_of}
use Rattle.walk_top.specs.Outputs.{output}
use Rattle.walk_top.specs.Readiness.{cuts_in, ready_walks}
use Rattle.walk_top.specs.ReadyTasks.{task_of_words}
use Rattle.walk_top.specs.Reports.{report_on}
use Rattle.walk_top.specs.Verdicts.{Task}
use Rattle.walk_top.proofs.CarriageLemmas.{ready-alone, ready-carries}
use Rattle.walk_top.proofs.ReportTasks.{once-more, output-report, output-text, ready-parts, ready-report}
use Rattle.walk_top.proofs.WalkingLemmas.{graph_of, ready-text, ready-within}
use Rattle.walk_top.proofs.tasks.do_task.Goals as goal

pub walk_and_write-requires-clause-named : goal.walk_and_write-requires-clause-named
walk_and_write-requires-clause-named g c κs within =
    let plan = c.requires.ready.0 in
    let edges = c.requires.ready.1 in
    let ready = c.requires.ready.2.is in
    let cuts : List ℕ = cuts_in (graph_of edges) (parts_of (job_of c.args.words.now)) in
    (graph_of edges, cuts, ready.parts_are, ready-within edges plan _ _ c.args.ready ready cuts)

pub returns-then-asks_report-clause-whole : goal.returns-then-asks_report-clause-whole
returns-then-asks_report-clause-whole g c = λ plan edges t.
    (let ready = t.is in
    let task : Task = task_of_words c.args.words.now plan edges in
    let asks : asks_report (job_of c.args.words.now) ≡ true = sym c.asks_report.ensures ∙ c.if-asks_report.true in
    let same : report_on (parted (graph_of edges) c.args.ready.run c.args.ready.cuts.cuts) ≡ output task =
    ready-report edges plan _ _ c.args.ready (job_of c.args.words.now) ready refl refl ∙ sym (output-report task asks) in
    subst (λ (bytes : List ℕ). OnOk c.walk_and_report.result (g.K.Sink.bytes c.walk_and_report.new.out ≡ append_known (g.K.Sink.bytes c.args.out.now) bytes)) same
    (c.walk_and_report.ensures.whole (graph_of edges) (ready-parts edges plan _ _ c.args.ready ready)))

pub returns-then-asks_report-clause-front : goal.returns-then-asks_report-clause-front
returns-then-asks_report-clause-front g c = λ plan edges t.
    (let ready = t.is in
    let task : Task = task_of_words c.args.words.now plan edges in
    let asks : asks_report (job_of c.args.words.now) ≡ true = sym c.asks_report.ensures ∙ c.if-asks_report.true in
    let same : report_on (parted (graph_of edges) c.args.ready.run c.args.ready.cuts.cuts) ≡ output task =
    ready-report edges plan _ _ c.args.ready (job_of c.args.words.now) ready refl refl ∙ sym (output-report task asks) in
    subst (λ (bytes : List ℕ). OnErr c.walk_and_report.result (GainsFront (g.K.Sink.bytes c.args.out.now) (g.K.Sink.bytes c.walk_and_report.new.out) bytes)) same
    (c.walk_and_report.ensures.front (graph_of edges) (ready-parts edges plan _ _ c.args.ready ready)))

pub returns-then-asks_report-clause-carried : goal.returns-then-asks_report-clause-carried
returns-then-asks_report-clause-carried g c = λ plan edges t.
    (let ready = t.is in
    once-more c.walk_and_report.result _ _
    (ready-carries edges plan _ _ c.args.ready (job_of c.args.words.now) _ _ _ _ ready refl refl)
    (c.walk_and_report.ensures.carried (graph_of edges) (cuts_in (graph_of edges) (parts_of (job_of c.args.words.now))) ready.parts_are))

pub returns-clause-whole : goal.returns-clause-whole
returns-clause-whole g c = λ plan edges t.
    (let ready = t.is in
    let task : Task = task_of_words c.args.words.now plan edges in
    let asks : asks_report (job_of c.args.words.now) ≡ false = sym c.asks_report.ensures ∙ c.if-asks_report.false in
    let cuts : List ℕ = cuts_in (graph_of edges) (parts_of (job_of c.args.words.now)) in
    let same : text (named c.args.ready.names (ready_walks (graph_of edges) cuts c.args.ready)) ≡ output task =
    ready-text edges plan _ (seed_of (job_of c.args.words.now)) _ c.args.ready ready refl cuts ∙ sym (output-text task asks) in
    subst (λ (bytes : List ℕ). OnOk c.walk_and_write.result (g.K.Sink.bytes c.walk_and_write.new.out ≡ append_known (g.K.Sink.bytes c.args.out.now) bytes)) same
    (c.walk_and_write.ensures.whole (graph_of edges) cuts ready.parts_are))

pub returns-clause-front : goal.returns-clause-front
returns-clause-front g c = λ plan edges t.
    (let ready = t.is in
    let task : Task = task_of_words c.args.words.now plan edges in
    let asks : asks_report (job_of c.args.words.now) ≡ false = sym c.asks_report.ensures ∙ c.if-asks_report.false in
    let cuts : List ℕ = cuts_in (graph_of edges) (parts_of (job_of c.args.words.now)) in
    let same : text (named c.args.ready.names (ready_walks (graph_of edges) cuts c.args.ready)) ≡ output task =
    ready-text edges plan _ (seed_of (job_of c.args.words.now)) _ c.args.ready ready refl cuts ∙ sym (output-text task asks) in
    subst (λ (bytes : List ℕ). OnErr c.walk_and_write.result (GainsFront (g.K.Sink.bytes c.args.out.now) (g.K.Sink.bytes c.walk_and_write.new.out) bytes)) same
    (c.walk_and_write.ensures.front (graph_of edges) cuts ready.parts_are))

pub returns-clause-carried : goal.returns-clause-carried
returns-clause-carried g c = λ plan edges t.
    (let ready = t.is in
    once-more c.walk_and_write.result _ _
    (ready-carries edges plan _ _ c.args.ready (job_of c.args.words.now) _ _ _ _ ready refl refl)
    (c.walk_and_write.ensures.carried (graph_of edges) (cuts_in (graph_of edges) (parts_of (job_of c.args.words.now))) ready.parts_are))

pub returns-clause-alone : goal.returns-clause-alone
returns-clause-alone g c = λ one.
    c.walk_and_write.ensures.alone (ready-alone c.requires.ready.1 c.requires.ready.0 _ _ c.args.ready c.requires.ready.2.is one)
