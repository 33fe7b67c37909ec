use Rattle.std.proofs.lemmas.Result.{IfOk-weaker}
use Rattle.walk_top.proofs.CarriageLemmas.{on-both, on-one}
use Rattle.walk_top.proofs.reporting.walk_counted.Goals as goal

pub run_counted-requires-clause-begun : goal.run_counted-requires-clause-begun
run_counted-requires-clause-begun g c κs within =
    let w = c.requires.walkable in
    record { graph = w.graph; run = c.args.run; cuts = w.cuts; begun = c.in_ok-world.ensures w.graph w.cuts w.of_graph }

pub returns-clause-walks : goal.returns-clause-walks
returns-clause-walks g c =
    IfOk-weaker c.run_counted.result _ _ (λ f is q cuts of. is q c.args.run cuts (c.in_ok-world.ensures q cuts of)) c.run_counted.ensures.walks

pub returns-clause-carried : goal.returns-clause-carried
returns-clause-carried g c =
    on-both c.run_counted.result _ _ _
    (λ carried logged q cuts of.
    (let begun = c.in_ok-world.ensures q cuts of in
    record { carried = carried q c.args.run cuts begun; logged = logged q c.args.run cuts begun }))
    c.run_counted.ensures.carried c.run_counted.ensures.logged

pub returns-clause-counted : goal.returns-clause-counted
returns-clause-counted g c =
    on-one c.run_counted.result _ _ (λ counted q cuts of. counted q c.args.run cuts (c.in_ok-world.ensures q cuts of)) c.run_counted.ensures.counted
