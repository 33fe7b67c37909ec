use Rattle.std.proofs.Common.{◌≤◌, ◌<◌, refl, arith}
use Rattle.dart_envelope.specs.Scans.{total_of}
use Rattle.dart_envelope.proofs.ScanLemmas.{total-split, scanned-past, scanned-here, scanned-none, same-total}
use Rattle.dart_envelope.proofs.HitLaws.{fair-scans}
use Rattle.dart_envelope.proofs.scanning.scan.Goals as goal

pub overflow_mul-share : goal.overflow_mul-share
overflow_mul-share g c =
    let fs = c.requires.fits.0 in
    let are = c.requires.fits.1 in
    let here = are.each c.loop-edge.edge c.factors.result c.loop-edge-test.true c.factors.ensures in
    let split = total-split c.args.weights.now fs c.loop-edge.edge c.loop-edge-test.true are.long in
    let sofar = c.loop-edge.invariant fs are in
    let less = sofar.less in
    let rest = sofar.rest in
    rw here (omega (arith, c.requires.fits.2))

pub loop-edge-init : goal.loop-edge-init
loop-edge-init g c = λ fs are. record { less = omega arith; rest = refl; first = omega arith }

pub returns-then-left-share-clause-edge : goal.returns-then-left-share-clause-edge
returns-then-left-share-clause-edge g c = λ fs are.
    let here = are.each c.loop-edge.edge c.factors.result c.loop-edge-test.true c.factors.ensures in
    let sofar = c.loop-edge.invariant fs are in
    let under = rw here at c.if-left-share.true in
    scanned-here c.args.weights.now fs c.args.z c.loop-edge.left c.loop-edge.edge c.loop-edge-test.true are.long sofar under

pub loop-edge-preserved : goal.loop-edge-preserved
loop-edge-preserved g c = λ fs are.
    let here = are.each c.loop-edge.edge c.factors.result c.loop-edge-test.true c.factors.ensures in
    let sofar = c.loop-edge.invariant fs are in
    let past = rw here at c.if-left-share.false in
    rw here (scanned-past c.args.weights.now fs c.args.z c.loop-edge.left c.loop-edge.edge c.loop-edge-test.true are.long sofar past)

pub returns-clause-edge : goal.returns-clause-edge
returns-clause-edge g c = λ fs are.
    let told = c.requires.fits.0 in
    let sofar = c.loop-edge.invariant fs are in
    let other = c.loop-edge.invariant told c.requires.fits.1 in
    let same = same-total c.args.weights.now fs told c.args.z c.loop-edge.left c.loop-edge.edge c.loop-edge-test.false sofar other in
    let below : 1 ≤ total_of c.args.weights.now fs → c.args.z < total_of c.args.weights.now fs = rw (← same) at c.requires.fits.3 in
    scanned-none c.args.weights.now fs c.args.z c.loop-edge.left c.loop-edge.edge c.loop-edge-test.false sofar below

pub returns-then-left-share-clause-fair : goal.returns-then-left-share-clause-fair
returns-then-left-share-clause-fair g c = λ fs are. fair-scans c.args.weights.now fs are.long

pub returns-clause-fair : goal.returns-clause-fair
returns-clause-fair g c = λ fs are. fair-scans c.args.weights.now fs are.long
