use Rattle.std.proofs.Common.{◌≡◌, ◌<◌, length, arith, sym, Ok, get_or, ◌∙◌, ap, subst}
use Rattle.std.proofs.lemmas.Grind.{common_steps}
use Rattle.std.proofs.lemmas.Slice.Zip.{AllZip-long}
use Rattle.std.specs.Prelude.{All}
use Rattle.std.specs.List.{AllZip}
use Rattle.superstep.specs.Rounding.{HasTurned, IsReady}
use Rattle.superstep.specs.Share.{share}
use Rattle.superstep.specs.declared.workers.Job.{Job}
use Rattle.superstep.proofs.ShareLemmas.{share-all, zip-at}
use Rattle.superstep.proofs.workers.work_side_by_side.Goals as goal

pub map_vec-requires-after_bounds : goal.map_vec-requires-after_bounds
map_vec-requires-after_bounds g c κs within i x low is =
    let workers : i < c.args.workers = omega (arith, low, c.in_ok-jobs.ensures.long, c.in_ok-jobs.jobs.ok.0) in
    let mine : x.seats.items ≡ share i c.args.workers 0 c.args.seats.items = ap (λ (j : Job). j.seats.items) is ∙ c.in_ok-jobs.ensures.each i x workers in
    subst (All IsReady) (sym mine) (share-all IsReady i c.args.workers 0 c.args.seats.items c.requires.ready)

pub gather-requires-clause-long : goal.gather-requires-clause-long
gather-requires-clause-long g c =
    let long = AllZip-long _ _ _ c.in_ok-done.ensures in grind (arith, common_steps)

pub gather-requires-clause-each : goal.gather-requires-clause-each
gather-requires-clause-each g c w d low =
    let many : length c.in_ok-answers.answers.items ≡ c.args.workers = grind (arith, common_steps) in
    let ok = zip-at _ c.in_ok-answers.answers.items c.in_ok-done.done.items w (Ok d) d c.in_ok-done.ensures (omega arith) in
    let dealt_all : length c.in_ok-jobs.jobs.items ≡ c.args.workers = grind (arith, common_steps) in
    let job = c.in_ok-answers.ensures.each w (Ok d) (omega arith) in
    let dealt = c.in_ok-jobs.ensures.each w job.1.job low in
    let call = job.1.call.met in
    let mine : job.1.job.seats.items ≡ share w c.args.workers 0 c.of-was.result.value.items = rw (← job.1.job_is job.1.job) (dealt ∙ ap (λ v. share w c.args.workers 0 v.items) (sym c.of-was.ensures)) in
    let had : AllZip HasTurned job.1.job.seats.items (get_or c.in_ok-done.done.items w d).items = rw ok at call in
    rw mine at had
