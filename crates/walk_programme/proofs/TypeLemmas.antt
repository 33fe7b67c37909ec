-- Types of an array, one after the other.
use Rattle.std.proofs.Common.{◌≡◌, ℕ, ◌+◌, ◌<◌, ◌≤◌, List, [], ◌∷◌, ◌++◌, length, get_or, drop, Option, Some, None, option_map, refl, ap, sym, append_assoc, append-nil}
use Rattle.std.proofs.lemmas.List.{drop_all}
use Rattle.toml.specs.View.{view, items_view}
use Rattle.toml.proofs.Views.{items_view-drop}
use Rattle.toml.specs.declared.value.Value.{Value}
use Rattle.walk_programme.specs.Judges.{whole, types_in}

-- types in front of those that others are
abbrev pub in_front : List ℕ → Option (List ℕ) → Option (List ℕ)
in_front done None = None
in_front done (Some ks) = Some (done ++ ks)

more : (done : List ℕ) (k : ℕ) (o : Option (List ℕ)) → in_front done (option_map (λ ks. k ∷ ks) o) ≡ in_front (done ++ k ∷ []) o
more done k None = refl
more done k (Some ks) = ap Some (sym (append_assoc done (k ∷ []) ks))

-- one type more
pub types_in-more : (vs : List Value) (i : ℕ) (d : Value) (done : List ℕ) (k : ℕ) → i < length vs → Some k ≡ whole 255 (view (get_or vs i d))
    → in_front done (types_in (items_view (drop i vs))) ≡ in_front (done ++ k ∷ []) (types_in (items_view (drop (i + 1) vs)))
unfolding types_in
types_in-more vs i d done k there h = rw (items_view-drop vs i d there, ← h) (more done k (types_in (items_view (drop (i + 1) vs))))

-- an item that is no type
pub types_in-none : (vs : List Value) (i : ℕ) (d : Value) → i < length vs → None ≡ whole 255 (view (get_or vs i d)) → types_in (items_view (drop i vs)) ≡ None
unfolding types_in
types_in-none vs i d there h = rw (items_view-drop vs i d there, ← h) refl

-- all types
pub types_in-end : (vs : List Value) (i : ℕ) (done : List ℕ) → length vs ≤ i → in_front done (types_in (items_view (drop i vs))) ≡ Some done
unfolding types_in
types_in-end vs i done all = rw (drop_all i vs all) (ap Some (append-nil done))
