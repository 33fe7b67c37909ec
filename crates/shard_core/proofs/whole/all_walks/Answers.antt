use Rattle.std.proofs.Common.{◌≡◌, ◌<◌, ◌≤◌, ◌+◌, ◌^◌, ◌++◌, ℕ, List, length, map, take, drop, refl, ap, subst, ◌∙◌, arith, rules}
use Rattle.std.specs.Prelude.{replicate, sum_by}
use Rattle.std.specs.List.{slice_range}
use Rattle.std.proofs.lemmas.List.{get_or-replicate}
use Rattle.walk_model.specs.declared.results.Print.{Print}
use Rattle.walk_model.specs.Walk.{walker_count}
use Rattle.csr_store.specs.RowGraph.{RowGraph}
use Rattle.vertex_partition.specs.PartViews.{PartView, IsPartOf}
use Rattle.traveller.specs.declared.runs.Run.{Run}
use Rattle.traveller.specs.PartedRuns.{PartedRun}
use Rattle.traveller.specs.Standing.{own_graph, parted}
use Rattle.shard_core.specs.Counted.{count_all}
use Rattle.shard_core.specs.Gathered.{prints_since}
use Rattle.shard_core.proofs.AbreastLemmas.{own-part}
use Rattle.shard_core.proofs.BatchLemmas.{AreFirst, later_walks, first-start, batch-weighed, batch-counts, batch-rest, first-more, counts-some, first-below, first-rising, first-first, first-whole}
use Rattle.shard_core.proofs.CountLemmas.{length-count_all}
use Rattle.shard_core.proofs.FinishLemmas.{whole-write}
use Rattle.shard_core.proofs.whole.all_walks.Goals as goal

pub batches-init : goal.batches-init
batches-init g c =
    let items : c.in_ok-counts.counts.items ≡ replicate c.walkers-count.result 0 = search rules in
    record {
      within = omega arith;
      long = omega (arith, c.in_ok-counts.ensures.len, c.in_ok-counts.counts.ok.0);
      rest = λ i past low. rw items (get_or-replicate c.walkers-count.result i 0 0
          (omega (arith, low, c.in_ok-counts.ensures.len, c.in_ok-counts.counts.ok.0)));
      walks = λ q of. first-start _ _ _ c.new-entries.ensures.items c.in_ok-begins.ensures.items;
    }

pub add_walks-requires-clause-below : goal.add_walks-requires-clause-below
add_walks-requires-clause-below g c =
    let part : PartView = c.args.here.now.part in
    first-below _ _ _ _ (c.batches.invariant.walks (own_graph part) (own-part part))

pub of-requires-clause-first : goal.of-requires-clause-first
of-requires-clause-first g c =
    let part : PartView = c.args.here.now.part in
    first-first _ _ _ _ (c.batches.invariant.walks (own_graph part) (own-part part))

pub of-requires-clause-rising : goal.of-requires-clause-rising
of-requires-clause-rising g c =
    let part : PartView = c.args.here.now.part in
    first-rising _ _ _ _ (c.batches.invariant.walks (own_graph part) (own-part part))

pub of-requires-clause-below : goal.of-requires-clause-below
of-requires-clause-below g c =
    let part : PartView = c.args.here.now.part in
    first-below _ _ _ _ (c.batches.invariant.walks (own_graph part) (own-part part))

pub add_walks-requires-clause-some : goal.add_walks-requires-clause-some
add_walks-requires-clause-some g c =
    let run : Run = c.args.here.now.run in
    let part : PartView = c.args.here.now.part in
    let inv = c.batches.invariant in
    let r : PartedRun = parted (own_graph part) run part.cuts in
    let n : ℕ = c.batches.first in
    let k : ℕ = c.min.result in
    let cs : List ℕ = c.batches.counts.items in
    let ps : List Print = c.walk_abreast.new.prints.prints in
    let short : r.plan.length < 2 ^ 32 = (let same = ap (λ r. r.plan.length) c.behind-here.view_is in
    let here = ap (λ (r : Run). r.plan.length) c.run.ensures.run in
    let again = ap (λ (r : Run). r.plan.length) c.run-2.ensures.run in
    omega (arith, same, here, again, c.behind-here.invariant.length)) in
    let weigh = batch-weighed r n k (n + k) ps c.clear.new.self.prints refl c.clear.ensures
    (λ h. c.in_ok-walk_abreast.ensures h (own_graph part) (own-part part)) in
    let new : List ℕ = c.count_prints.new.counts in
    let made : new ≡ count_all cs ps = c.count_prints.ensures ∙ ap (λ (l : List ℕ). count_all l ps) c.as_mut_slice.ensures.value in
    let size : length new ≡ c.batches.counts.len = ap length made ∙ length-count_all cs ps ∙ omega (arith, c.batches.counts.ok.0) in
    let now : c.deref.result.now ≡ count_all cs ps = c.deref.ensures.value ∙ whole-write c.batches.counts.len new cs size ∙ made in
    let long : n + k ≤ length cs = omega (arith, c.min.ensures, inv.long, c.batches-test.true) in
    counts-some r n k (slice_range c.deref.result.now n (n + k)) short
    (ap (λ (l : List ℕ). slice_range l n (n + k)) now ∙ batch-counts r n k (n + k) ps cs short refl weigh long inv.rest)

pub batches-preserved : goal.batches-preserved
batches-preserved g c =
    let run : Run = c.args.here.now.run in
    let part : PartView = c.args.here.now.part in
    let inv = c.batches.invariant in
    let n : ℕ = c.batches.first in
    let k : ℕ = c.min.result in
    let cs : List ℕ = c.batches.counts.items in
    let ps : List Print = c.walk_abreast.new.prints.prints in
    let short : run.plan.length < 2 ^ 32 = (let same = ap (λ r. r.plan.length) c.behind-here.view_is in
    let here = ap (λ (r : Run). r.plan.length) c.run.ensures.run in
    let again = ap (λ (r : Run). r.plan.length) c.run-2.ensures.run in
    omega (arith, same, here, again, c.behind-here.invariant.length)) in
    let weigh : (q : RowGraph) → IsPartOf q part → (h : Print → ℕ) → sum_by h ps ≡ sum_by h (prints_since n (later_walks (parted q run part.cuts) n k)) =
    λ q of. batch-weighed (parted q run part.cuts) n k (n + k) ps c.clear.new.self.prints refl c.clear.ensures (λ h. c.in_ok-walk_abreast.ensures h q of) in
    let new : List ℕ = c.count_prints.new.counts in
    let made : new ≡ count_all cs ps = c.count_prints.ensures ∙ ap (λ (l : List ℕ). count_all l ps) c.as_mut_slice.ensures.value in
    let size : length new ≡ c.batches.counts.len = ap length made ∙ length-count_all cs ps ∙ omega (arith, c.batches.counts.ok.0) in
    let all : take c.batches.counts.len (new ++ drop (length new) cs) ≡ count_all cs ps = whole-write c.batches.counts.len new cs size ∙ made in
    let now : c.deref.result.now ≡ count_all cs ps = c.deref.ensures.value ∙ all in
    let long : n + k ≤ length cs = omega (arith, c.min.ensures, inv.long, c.batches-test.true) in
    let slice : (q : RowGraph) → IsPartOf q part → slice_range c.deref.result.now n (n + k) ≡ map length (later_walks (parted q run part.cuts) n k) =
    λ q of. ap (λ (l : List ℕ). slice_range l n (n + k)) now
    ∙ batch-counts (parted q run part.cuts) n k (n + k) ps cs short refl (weigh q of) long inv.rest in
    rw all (record {
      within = omega (arith, long, inv.long);
      long = length-count_all cs ps ∙ inv.long;
      rest = batch-rest (parted (own_graph part) run part.cuts) n k (n + k) ps cs refl (weigh (own_graph part) (own-part part)) inv.rest;
      walks = λ q of.
          first-more (parted q run part.cuts) n k (n + k) ps (slice_range c.deref.result.now n (n + k)) c.batches.entries.items c.batches.begins.items
          c.add_walks.new.entries.items c.add_walks.new.begins.items refl (weigh q of) (slice q of) (inv.walks q of)
          c.in_ok-add_walks.ensures.begins c.in_ok-add_walks.ensures.entries;
    })

pub returns : goal.returns
returns g c = λ q of.
    (let part : PartView = c.args.here.now.part in
    let run : Run = c.args.here.now.run in
    let all : c.batches.first ≡ walker_count run.plan.start run.vertices =
    omega (arith, c.batches.invariant.within, c.batches-test.false) ∙ c.walkers-count.ensures
    ∙ ap (λ (r : Run). walker_count r.plan.start r.vertices) c.run.ensures.run in
    let first = subst (λ j. AreFirst (parted q run part.cuts) j c.batches.entries.items c.batches.begins.items) all (c.batches.invariant.walks q of) in
    c.of.ensures.walks ∙ first-whole (parted q run part.cuts) c.batches.entries.items c.batches.begins.items first)
