use Rattle.std.proofs.Common.{◌≡◌, ◌<◌, ◌≤◌, ◌+◌, ℕ, List, Option, None, length, take, get_or, ap, ◌∙◌, arith}
use Rattle.std.specs.Prelude.{sum_by}
use Rattle.std.proofs.lemmas.List.{take_all}
use Rattle.request_reader.specs.declared.requests.Request.{Request}
use Rattle.walk_top.specs.ServeVerdicts.{entries_of}
use Rattle.walk_top.proofs.ServeLemmas.{sum-more, sum-front}
use Rattle.walk_top.proofs.request_files.room_after.Goals as goal

pub requests-preserved : goal.requests-preserved
requests-preserved c =
    let f : Option Request → ℕ = entries_of c.args.names.now in
    let low : c.requests.k < length c.args.requests.now = omega arith in
    let more = sum-more f c.args.requests.now c.requests.k None low in
    let one = c.entries_of-entries.ensures.entries in
    let inv = c.requests.invariant in
    let fits = c.if-entries-left.false in
    omega (arith, more, one, inv, fits)

pub returns-then-entries-left-clause-passed : goal.returns-then-entries-left-clause-passed
returns-then-entries-left-clause-passed c =
    let f : Option Request → ℕ = entries_of c.args.names.now in
    let low : c.requests.k < length c.args.requests.now = omega arith in
    let more = sum-more f c.args.requests.now c.requests.k None low in
    let all = sum-front f c.args.requests.now (c.requests.k + 1) in
    let one = c.entries_of-entries.ensures.entries in
    let inv = c.requests.invariant in
    let over = c.if-entries-left.true in
    omega (arith, more, all, one, inv, over)

pub returns-clause-fits : goal.returns-clause-fits
returns-clause-fits c =
    let f : Option Request → ℕ = entries_of c.args.names.now in
    let all = ap (sum_by f) (take_all c.requests.k c.args.requests.now (omega arith)) in
    let inv = c.requests.invariant in
    omega (arith, all, inv)
