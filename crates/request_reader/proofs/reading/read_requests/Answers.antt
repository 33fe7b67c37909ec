use Rattle.std.proofs.Common.{◌+◌, ◌++◌, drop, refl, ap, sym, ◌∙◌, arith, append_assoc}
use Rattle.std.specs.Prelude.{slice_range}
use Rattle.std.proofs.lemmas.List.{append-nil}
use Rattle.request_reader.specs.Requests.{line_requests, requests_of}
use Rattle.request_reader.proofs.LineLemmas.{requests-cut, requests-none}
use Rattle.request_reader.proofs.reading.read_requests.Goals as goal

pub lines-preserved : goal.lines-preserved
lines-preserved c =
    let text = c.args.text.now in
    let at = c.lines.at in
    let end = c.line_end-end.result in
    let e = c.line_end-end.ensures in
    let inv = c.lines.invariant in
    let more = c.in_ok-add_request.ensures in
    record {
      within = (let most = e.within in omega arith);
      so_far = ap (λ l. l ++ requests_of (drop (end + 1) text)) more.added
          ∙ append_assoc c.lines.requests.items (line_requests (slice_range text at end)) (requests_of (drop (end + 1) text))
          ∙ ap (λ l. c.lines.requests.items ++ l) (sym (requests-cut text at end (end + 1) refl e.onward e.within e.feed e.before))
          ∙ inv.so_far;
      few = (let one = more.few in let was = inv.few in let on = e.onward in omega arith);
      low = (let one = more.few in let was = inv.few in let low = c.lines-test.true in omega arith);
      steps = more.steps;
    }

pub returns-clause-requests : goal.returns-clause-requests
returns-clause-requests c =
    sym (append-nil c.lines.requests.items) ∙ ap (λ l. c.lines.requests.items ++ l) (sym (requests-none c.args.text.now c.lines.at c.lines-test.false))
    ∙ c.lines.invariant.so_far

pub returns-clause-few : goal.returns-clause-few
returns-clause-few c = c.lines.invariant.low
