use Rattle.std.proofs.Common.{◌≡◌, ◌++◌, List, ℕ, length, ap, ◌∙◌, arith}
use Rattle.std.specs.List.{flat_map}
use Rattle.walk_model.specs.Beginnings.{begins_from}
use Rattle.shard_core.proofs.FinishLemmas.{first-place, places-rise, places-below, whole-write, finished}
use Rattle.shard_core.proofs.GatherLemmas.{length-put_all}
use Rattle.shard_core.proofs.finishing.finish.Goals as goal

pub put_lists-requires : goal.put_lists-requires
put_lists-requires c =
    let begins : c.add_begins.new.begins.items ≡ begins_from 0 c.args.counts.now =
    c.in_ok-end.ensures.begins ∙ ap (λ (l : List ℕ). l ++ begins_from 0 c.args.counts.now) c.in_ok-begins.ensures.items in
    rw c.as_slice.ensures.value
    (places-below c.args.counts.now c.add_begins.new.begins.items (length c.as_mut_slice.result.now) c.requires begins
    (c.as_mut_slice.ensures.len ∙ c.in_ok-entries.ensures.len ∙ (let end = c.in_ok-end.ensures.end in omega (arith, end))))

pub of-requires-clause-first : goal.of-requires-clause-first
of-requires-clause-first c =
    let begins : c.add_begins.new.begins.items ≡ begins_from 0 c.args.counts.now =
    c.in_ok-end.ensures.begins ∙ ap (λ (l : List ℕ). l ++ begins_from 0 c.args.counts.now) c.in_ok-begins.ensures.items in
    let long : length c.put_lists.new.entries ≡ c.in_ok-entries.entries.len =
    ap length c.put_lists.ensures ∙ length-put_all c.as_slice.result.now c.as_mut_slice.result.now (flat_map (λ k. k.prints) c.args.kept.items) ∙ c.as_mut_slice.ensures.len in
    rw (whole-write c.in_ok-entries.entries.len c.put_lists.new.entries c.in_ok-entries.entries.items long)
    (first-place c.args.counts.now c.add_begins.new.begins.items (length c.put_lists.new.entries) begins
    (long ∙ c.in_ok-entries.ensures.len ∙ (let end = c.in_ok-end.ensures.end in omega (arith, end))))

pub of-requires-clause-rising : goal.of-requires-clause-rising
of-requires-clause-rising c =
    places-rise c.args.counts.now c.add_begins.new.begins.items c.requires
    (c.in_ok-end.ensures.begins ∙ ap (λ (l : List ℕ). l ++ begins_from 0 c.args.counts.now) c.in_ok-begins.ensures.items)

pub of-requires-clause-below : goal.of-requires-clause-below
of-requires-clause-below c =
    let begins : c.add_begins.new.begins.items ≡ begins_from 0 c.args.counts.now =
    c.in_ok-end.ensures.begins ∙ ap (λ (l : List ℕ). l ++ begins_from 0 c.args.counts.now) c.in_ok-begins.ensures.items in
    let long : length c.put_lists.new.entries ≡ c.in_ok-entries.entries.len =
    ap length c.put_lists.ensures ∙ length-put_all c.as_slice.result.now c.as_mut_slice.result.now (flat_map (λ k. k.prints) c.args.kept.items) ∙ c.as_mut_slice.ensures.len in
    rw (whole-write c.in_ok-entries.entries.len c.put_lists.new.entries c.in_ok-entries.entries.items long)
    (places-below c.args.counts.now c.add_begins.new.begins.items (length c.put_lists.new.entries) c.requires begins
    (long ∙ c.in_ok-entries.ensures.len ∙ (let end = c.in_ok-end.ensures.end in omega (arith, end))))

pub returns : goal.returns
returns c = λ walks all shape.
    (let begins : c.add_begins.new.begins.items ≡ begins_from 0 c.args.counts.now =
    c.in_ok-end.ensures.begins ∙ ap (λ (l : List ℕ). l ++ begins_from 0 c.args.counts.now) c.in_ok-begins.ensures.items in
    let long : length c.put_lists.new.entries ≡ c.in_ok-entries.entries.len =
    ap length c.put_lists.ensures ∙ length-put_all c.as_slice.result.now c.as_mut_slice.result.now (flat_map (λ k. k.prints) c.args.kept.items) ∙ c.as_mut_slice.ensures.len in
    let same = rw (whole-write c.in_ok-entries.entries.len c.put_lists.new.entries c.in_ok-entries.entries.items long) at c.of.ensures.walks in
    same ∙ finished walks (flat_map (λ k. k.prints) c.args.kept.items) c.args.counts.now c.add_begins.new.begins.items c.as_mut_slice.result.now c.put_lists.new.entries all shape
    begins (c.as_mut_slice.ensures.len ∙ c.in_ok-entries.ensures.len ∙ (let end = c.in_ok-end.ensures.end in omega (arith, end)))
    (rw c.as_slice.ensures.value at c.put_lists.ensures))
