-- Unknown keys of a table in the order of its keys.
use Rattle.std.proofs.Common.{◌≡◌, ℕ, true, false, List, [], ◌∷◌, Option, Some, None, String, Global, Less, Greater, string_bytes, nat_cmp, refl, ap, sym, ◌∙◌, inl, inr}
use Rattle.std.proofs.lemmas.Bool.{cases_Bool}
use Rattle.std.proofs.lemmas.Cmp.{nat_list_cmp_total}
use Rattle.std.specs.Cmp.Lexicographic.{slice_cmp}
use Rattle.std.specs.List.{AllByRecursion}
use Rattle.std.specs.List.Sorted.{IsStrictlySortedBy}
use Rattle.std.specs.Map.{keys_of}
use Rattle.std.specs.Ordering.{is_lt, ordering_reverse}
use Rattle.std.specs.String.{string_cmp}
use Rattle.toml.proofs.Views.{Entry}
use Rattle.toml.specs.View.{members_view}
use Rattle.walk_programme.specs.Table.{is_known, lesser, least_unknown}

-- a key that is below the least unknown one of others, if there is one
abbrev IsBelow : List ℕ → Option (List ℕ) → Type 0
IsBelow k None = Unit {0}
IsBelow k (Some l) = slice_cmp nat_cmp k l ≡ Less

lesser-below : (k : List ℕ) (o : Option (List ℕ)) → IsBelow k o → lesser k o ≡ Some k
lesser-below k None h = refl
lesser-below k (Some l) h =
    let above : slice_cmp nat_cmp l k ≡ Greater = nat_list_cmp_total.antisymm l k ∙ ap ordering_reverse h in
    rw above refl

below-lesser : (k l : List ℕ) (o : Option (List ℕ)) → slice_cmp nat_cmp k l ≡ Less → IsBelow k o → IsBelow k (lesser l o)
below-lesser k l None first h = first
below-lesser k l (Some m) first h =
    elim (cases_Bool (is_lt (slice_cmp nat_cmp m l))) [ inl less ↦ rw less h | inr other ↦ rw other first ]

-- a key below all keys is below the least unknown one of them
below-all : (k : String Global) (es : List Entry) → AllByRecursion (λ y. string_cmp k y ≡ Less) (keys_of es) → IsBelow (string_bytes k) (least_unknown (members_view es))
unfolding least_unknown
below-all k [] h = tt
below-all k (e ∷ es) h =
    elim (cases_Bool (is_known (string_bytes e.0))) [
      | inl known ↦ rw known (below-all k es h.1)
      | inr other ↦ rw other (below-lesser (string_bytes k) (string_bytes e.0) (least_unknown (members_view es)) h.0 (below-all k es h.1))
    ]

-- an unknown key in front of entries in order is the least
pub least_unknown-first : (e : Entry) (es : List Entry) → IsStrictlySortedBy string_cmp (keys_of (e ∷ es)) → is_known (string_bytes e.0) ≡ false
    → Some (string_bytes e.0) ≡ least_unknown (members_view (e ∷ es))
unfolding least_unknown IsStrictlySortedBy
least_unknown-first e es sorted other =
    rw other (sym (lesser-below (string_bytes e.0) (least_unknown (members_view es)) (below-all e.0 es sorted.0)))

-- a known key doesn't matter
pub least_unknown-known : (e : Entry) (es : List Entry) → is_known (string_bytes e.0) ≡ true → least_unknown (members_view (e ∷ es)) ≡ least_unknown (members_view es)
unfolding least_unknown
least_unknown-known e es known = rw known refl

-- entries in order stay so without the first
pub sorted-rest : (e : Entry) (es : List Entry) → IsStrictlySortedBy string_cmp (keys_of (e ∷ es)) → IsStrictlySortedBy string_cmp (keys_of es)
unfolding IsStrictlySortedBy
sorted-rest e es sorted = sorted.1
