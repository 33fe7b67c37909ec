use Rattle.std.proofs.Common.{◌≡◌, arith}
use Rattle.dart_envelope.specs.Scans.{total_of}
use Rattle.dart_envelope.proofs.HitLaws.{fair-scans}
use Rattle.dart_envelope.proofs.ScanLemmas.{total-split, total-end}
use Rattle.dart_envelope.proofs.scanning.scan_total.Goals as goal

pub overflow_mul-total : goal.overflow_mul-total
overflow_mul-total g c =
    let fs = c.requires.fits.0 in
    let are = c.requires.fits.1 in
    let here = are.each c.loop-edge.edge c.factors.result c.loop-edge-test.true c.factors.ensures in
    let split = total-split c.args.weights.now fs c.loop-edge.edge c.loop-edge-test.true are.long in
    let sofar = c.loop-edge.invariant fs are in
    rw here (omega (arith, split, sofar, c.requires.fits.2))

pub overflow_add-total : goal.overflow_add-total
overflow_add-total g c =
    let fs = c.requires.fits.0 in
    let are = c.requires.fits.1 in
    let here = are.each c.loop-edge.edge c.factors.result c.loop-edge-test.true c.factors.ensures in
    let split = total-split c.args.weights.now fs c.loop-edge.edge c.loop-edge-test.true are.long in
    let sofar = c.loop-edge.invariant fs are in
    rw here (omega (arith, split, sofar, c.requires.fits.2))

pub loop-edge-preserved : goal.loop-edge-preserved
loop-edge-preserved g c = λ fs are.
    let here = are.each c.loop-edge.edge c.factors.result c.loop-edge-test.true c.factors.ensures in
    let split = total-split c.args.weights.now fs c.loop-edge.edge c.loop-edge-test.true are.long in
    let sofar = c.loop-edge.invariant fs are in
    rw here (omega (arith, split, sofar))

pub returns-clause-total : goal.returns-clause-total
returns-clause-total g c = λ fs are.
    let sofar = c.loop-edge.invariant fs are in
    let done = total-end c.args.weights.now fs c.loop-edge.edge c.loop-edge-test.false in
    omega (arith, sofar, done)

pub returns-clause-fair : goal.returns-clause-fair
returns-clause-fair g c = λ fs are.
    let sofar = c.loop-edge.invariant fs are in
    let done = total-end c.args.weights.now fs c.loop-edge.edge c.loop-edge-test.false in
    let whole : c.loop-edge.total ≡ total_of c.args.weights.now fs = omega (arith, sofar, done) in
    rw whole (fair-scans c.args.weights.now fs are.long)
