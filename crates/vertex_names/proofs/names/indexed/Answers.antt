use Rattle.std.proofs.Common.{◌≡◌, ◌+◌, ◌-◌, ◌≤◌, ◌<◌, ℕ, List, length, sym, arith, subst}
use Rattle.std.specs.Prelude.{slice_index, All}
use Rattle.std.specs.List.Sorted.{IsStrictlyIncreasing}
use Rattle.std.proofs.lemmas.List.{get_or_default}
use Rattle.vertex_names.proofs.IndexLemmas.{non_decreasing, spread, IsIndex-none}
use Rattle.vertex_names.proofs.names.indexed.Goals as goal

-- the first of rising numbers is the least
least_of : (ids : List ℕ) (first : ℕ) → IsStrictlyIncreasing ids → first ≡ slice_index ids 0 → All (λ y. first ≤ y) ids
least_of ids first up is = λ k d h.
    (let rise = non_decreasing ids up 0 k d (omega arith) h in
    let read = get_or_default ids 0 d 0 (omega arith) in
    omega arith)

pub overflow_sub-span : goal.overflow_sub-span
overflow_sub-span c =
    let n = c.len-count.ensures in
    let some : 0 < length c.args.ids.items = omega arith in
    let low = get_or_default c.args.ids.items 0 c.index-first.result.now 0 some in
    let high = get_or_default c.args.ids.items (c.len-count.result - 1) c.index.result.now 0 (omega arith) in
    let up = non_decreasing c.args.ids.items c.requires.rising 0 (c.len-count.result - 1) 0 (omega arith) (omega arith) in
    omega arith

pub invariant_of-result-then-span-count : goal.invariant_of-result-then-span-count
invariant_of-result-then-span-count c =
    let n = c.len-count.ensures in
    let some : 0 < length c.args.ids.items = omega arith in
    let low = get_or_default c.args.ids.items 0 c.index-first.result.now 0 some in
    let high = get_or_default c.args.ids.items (c.len-count.result - 1) c.index.result.now 0 (omega arith) in
    let up = non_decreasing c.args.ids.items c.requires.rising 0 (c.len-count.result - 1) 0 (omega arith) (omega arith) in
    let count : c.len-count.result ≡ length c.args.ids.items = omega arith in
    let first : slice_index c.args.ids.items 0 ≡ c.index-first.result.now = omega arith in
    let last : slice_index c.args.ids.items (c.len-count.result - 1) ≡ c.index-first.result.now + (c.len-count.result - 1) = omega arith in
    let last' : slice_index c.args.ids.items (length c.args.ids.items - 1) ≡ c.index-first.result.now + (length c.args.ids.items - 1) =
    subst (λ m. slice_index c.args.ids.items (m - 1) ≡ c.index-first.result.now + (m - 1)) count last in
    record {
      rising = c.requires.rising;
      few = c.requires.few;
      least = least_of c.args.ids.items c.index-first.result.now c.requires.rising (sym first);
      shift = omega arith;
      close = λ yes. spread c.args.ids.items c.index-first.result.now c.requires.rising first last';
      index = rw c.new-then-span-count.ensures.items (IsIndex-none c.index-first.result.now 0 c.args.ids.items);
      whole = λ k no h. absurd (cc);
    }

pub bucket_starts-requires-clause-least : goal.bucket_starts-requires-clause-least
bucket_starts-requires-clause-least c =
    let some : 0 < length c.args.ids.items = omega arith in
    let low = get_or_default c.args.ids.items 0 c.index-first.result.now 0 some in
    subst (λ l. All (λ y. c.index-first.result.now ≤ y) l) (sym c.deref.ensures.value)
    (least_of c.args.ids.items c.index-first.result.now c.requires.rising (omega arith))

pub invariant_of-result-2 : goal.invariant_of-result-2
invariant_of-result-2 c =
    let some : 0 < length c.args.ids.items = omega arith in
    let low = get_or_default c.args.ids.items 0 c.index-first.result.now 0 some in
    let value = c.deref.ensures.value in
    record {
      rising = c.requires.rising;
      few = c.requires.few;
      least = least_of c.args.ids.items c.index-first.result.now c.requires.rising (omega arith);
      shift = omega arith;
      close = λ yes. absurd (cc);
      index = rw value at c.in_ok-starts.ensures.index;
      whole = λ k no h. (rw value at c.in_ok-starts.ensures.whole) k h;
    }
