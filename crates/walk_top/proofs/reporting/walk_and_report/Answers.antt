use Rattle.std.proofs.Common.{◌-◌, ◌/◌, List, ℕ, ap, refl, subst, ◌∙◌, arith}
use Rattle.std.specs.Io.KnownBytes.{append_known}
use Rattle.traveller.specs.PartedRuns.{PartedRun}
use Rattle.traveller.specs.Standing.{parted}
use Rattle.path_writer.specs.Gains.{GainsFront}
use Rattle.walk_top.proofs.ReportLemmas.{changes-few, changes-total, report-counted, steps-few}
use Rattle.walk_top.proofs.reporting.walk_and_report.Goals as goal

pub all_steps-steps-requires : goal.all_steps-steps-requires
all_steps-steps-requires g c =
    let of = c.requires.graph in
    steps-few (parted of.0 c.args.ready.run c.args.ready.cuts.cuts) c.in-Ok.walks (c.in-Ok.ensures.walks of.0 c.args.ready.cuts.cuts of.1) c.requires.few

pub all_changes-moves-requires : goal.all_changes-moves-requires
all_changes-moves-requires g c =
    let of = c.requires.graph in
    changes-few (parted of.0 c.args.ready.run c.args.ready.cuts.cuts) c.in-Ok.walks (c.in-Ok.ensures.walks of.0 c.args.ready.cuts.cuts of.1) c.requires.few

pub overflow_sub-asks : goal.overflow_sub-asks
overflow_sub-asks g c =
    let of = c.requires.graph in
    let most = changes-total (parted of.0 c.args.ready.run c.args.ready.cuts.cuts) c.in-Ok.walks c.walk_counted.new.total
    (c.in-Ok.ensures.walks of.0 c.args.ready.cuts.cuts of.1) (c.in-Ok.ensures.counted of.0 c.args.ready.cuts.cuts of.1) in
    let moves = c.all_changes-moves.ensures in
    omega (arith, most, moves)

pub returns-in-Ok-write_report-clause-whole : goal.returns-in-Ok-write_report-clause-whole
returns-in-Ok-write_report-clause-whole g c = λ q of.
    (let p : PartedRun = parted q c.args.ready.run c.args.ready.cuts.cuts in
    let total : ℕ = c.walk_counted.new.total in
    let moves : ℕ = c.all_changes-moves.result in
    c.in-Ok-write_report.ensures.whole
    ∙ ap (append_known (g.K.Sink.bytes c.args.out.now))
    (report-counted p c.in-Ok.walks c.count.result c.all_steps-steps.result moves ((total - moves) / 2) total
    (c.in-Ok.ensures.walks q c.args.ready.cuts.cuts of) (c.in-Ok.ensures.counted q c.args.ready.cuts.cuts of)
    c.count.ensures c.all_steps-steps.ensures c.all_changes-moves.ensures refl))

pub returns-clause-front : goal.returns-clause-front
returns-clause-front g c = λ q of.
    (let p : PartedRun = parted q c.args.ready.run c.args.ready.cuts.cuts in
    let total : ℕ = c.walk_counted.new.total in
    let moves : ℕ = c.all_changes-moves.result in
    subst (λ (bytes : List ℕ). GainsFront (g.K.Sink.bytes c.args.out.now) (g.K.Sink.bytes c.write_report.new.sink) bytes)
    (report-counted p c.in-Ok.walks c.count.result c.all_steps-steps.result moves ((total - moves) / 2) total
    (c.in-Ok.ensures.walks q c.args.ready.cuts.cuts of) (c.in-Ok.ensures.counted q c.args.ready.cuts.cuts of)
    c.count.ensures c.all_steps-steps.ensures c.all_changes-moves.ensures refl)
    c.in-Err.ensures.front)
