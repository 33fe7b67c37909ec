use Rattle.std.proofs.Common.{◌≡◌, ◌<◌, ◌≤◌, ◌+◌, ℕ, List, Option, Vec, length, take, get_or, ap, sym, ◌∙◌, arith}
use Rattle.std.specs.Prelude.{sum_by}
use Rattle.std.specs.declared.alloc.Global.{Global}
use Rattle.std.proofs.lemmas.List.{take_all}
use Rattle.request_reader.specs.declared.requests.Request.{Request}
use Rattle.walk_top.specs.ServeVerdicts.{entries_of}
use Rattle.walk_top.proofs.ServeLemmas.{sum-more, sum-front, file_entries, entries-is}
use Rattle.walk_top.proofs.request_files.are_within.Goals as goal

pub files-preserved : goal.files-preserved
files-preserved c =
    let f : Vec (Option Request) Global → ℕ = file_entries c.args.names.now in
    let low : c.files.k < length c.args.files.now = omega arith in
    let more = sum-more f c.args.files.now c.files.k c.index-files-k.result low in
    let file : file_entries c.args.names.now (get_or c.args.files.now c.files.k c.index-files-k.result) ≡ sum_by (entries_of c.args.names.now) c.as_slice.result.now =
    ap f (sym c.index-files-k.is) ∙ ap (sum_by (entries_of c.args.names.now)) (sym c.as_slice.ensures.value) in
    let left = c.in-Some.ensures.fits in
    let inv = c.files.invariant in
    omega (arith, more, file, left, inv)

pub returns-in-None-clause-no : goal.returns-in-None-clause-no
returns-in-None-clause-no c = λ not.
    let f : Vec (Option Request) Global → ℕ = file_entries c.args.names.now in
    let low : c.files.k < length c.args.files.now = omega arith in
    let more = sum-more f c.args.files.now c.files.k c.index-files-k.result low in
    let file : file_entries c.args.names.now (get_or c.args.files.now c.files.k c.index-files-k.result) ≡ sum_by (entries_of c.args.names.now) c.as_slice.result.now =
    ap f (sym c.index-files-k.is) ∙ ap (sum_by (entries_of c.args.names.now)) (sym c.as_slice.ensures.value) in
    let all = sum-front f c.args.files.now (c.files.k + 1) in
    let whole = entries-is c.args.names.now c.args.files.now in
    let over = c.in-None.ensures.passed in
    let inv = c.files.invariant in
    omega (arith, more, file, all, whole, over, inv)

pub returns-clause-yes : goal.returns-clause-yes
returns-clause-yes c = λ yes.
    let f : Vec (Option Request) Global → ℕ = file_entries c.args.names.now in
    let all = ap (sum_by f) (take_all c.files.k c.args.files.now (omega arith)) in
    let whole = entries-is c.args.names.now c.args.files.now in
    let inv = c.files.invariant in
    omega (arith, all, whole, inv)
