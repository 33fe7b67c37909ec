-- All parcels, sorted by addressee.
use Rattle.std.proofs.Common.{◌≡◌, ℕ, Bool, not, ◌&&◌, List, [], ◌∷◌, ◌++◌, refl, sym, ◌∙◌, arith}
use Rattle.std.specs.Prelude.{◌==◌}
use Rattle.std.specs.List.Sorted.{IsPermutation, IsNonDecreasingBy, IsStableByKey, ties}
use Rattle.std.specs.Ordering.{is_lt, nat_cmp}
use Rattle.std.proofs.lemmas.Bool.Decides.{nat_tests}
use Rattle.std.proofs.lemmas.List.{map-append, nil_from_length}
use Rattle.std.proofs.lemmas.List.Concat.{flat_map-append}
use Rattle.std.proofs.lemmas.List.Elements.{All-append, filter-append, filter_agree}
use Rattle.std.proofs.lemmas.List.Sorted.{length_permutation, All-permutation, IsPermutation-trans}
use Rattle.walker_mail.specs.declared.parcels.Addressed.{Addressed}
use Rattle.walker_mail.specs.declared.parcels.Parcel.{Parcel}
use Rattle.walker_mail.specs.Posts.{items_of, all_items, sent_from}
use Rattle.walker_mail.specs.Packing.{IsPacked, IsPacking, parcels_to, contents}
use Rattle.walker_mail.proofs.MoveLemmas.{IsPermutation-flat_map}

-- numbers of which neither is less than the other are the same
tie_is : (a n : ℕ) → (not (is_lt (nat_cmp a n)) && not (is_lt (nat_cmp n a))) ≡ (n == a)
tie_is a n = grind (arith, nat_tests)

-- a stable sort by addressee leaves the parcels of each addressee as they were
sorted_to : {I : Type 0} (a : ℕ) (before after : List (Parcel I)) → IsPermutation before after → IsStableByKey (λ p. p.to) nat_cmp before after
    → parcels_to a after ≡ parcels_to a before
sorted_to a [] after moved stable =
    rw (nil_from_length after (length_permutation [] after moved)) refl
sorted_to {I} a (p ∷ ps) after moved stable =
    let x : Parcel I = record p { to = a } in
    let test : Parcel I → Bool = λ q. q.to == a in
    let tie : Parcel I → Bool = ties (λ q r. is_lt (nat_cmp q.to r.to)) x in
    let same = filter_agree tie test (λ q. tie_is a q.to) in
    sym (same after) ∙ stable x ∙ same (p ∷ ps)

-- what was packed is packed
pub all_packed : {I : Type 0} (from limit : ℕ) (xs : List (Addressed I)) (full last after : List (Parcel I)) → IsPacking from limit xs full last
    → IsPermutation (full ++ last) after → IsStableByKey (λ p. p.to) nat_cmp (full ++ last) after → IsNonDecreasingBy (λ p. p.to) after
    → IsPacked from limit xs after
all_packed {I} from limit xs full last after packing moved stable rising =
    let Sends : Parcel I → Type 0 = λ p. p.from ≡ from in record {
      sender = All-permutation Sends (full ++ last) after moved (All-append Sends full last packing.full_sender packing.last_sender);
      rising = rising;
      cut = λ a.
          let split : contents (parcels_to a (full ++ last)) ≡ contents (parcels_to a full) ++ contents (parcels_to a last) =
          rw (filter-append (λ (p : Parcel I). p.to == a) full last) (map-append (λ (p : Parcel I). p.items.items) (parcels_to a full) (parcels_to a last)) in
          rw (sorted_to a (full ++ last) after moved stable, split) (packing.cut a);
    }

pub all_moved : {I : Type 0} (from limit : ℕ) (xs : List (Addressed I)) (full last after : List (Parcel I)) → IsPacking from limit xs full last
    → IsPermutation (full ++ last) after → IsPermutation (sent_from from xs) (all_items after)
all_moved from limit xs full last after packing moved =
    IsPermutation-trans (sent_from from xs) (all_items (full ++ last)) (all_items after)
    (rw (flat_map-append items_of full last) packing.all) (IsPermutation-flat_map items_of (full ++ last) after moved)
