-- Items on their way: what parcels hold, item by item.
use Rattle.std.specs.Prelude.{ℕ, List, map}
use Rattle.std.specs.List.{flat_map}
use Rattle.walk_model.specs.declared.messages.Letter.{Letter}
use Rattle.walker_mail.specs.declared.parcels.Addressed.{Addressed}
use Rattle.walker_mail.specs.declared.parcels.Parcel.{Parcel}
use Rattle.walker_mail.specs.declared.parcels.Posted.{Posted}

-- an item with its sender and its addressee
abbrev pub posted_item : {I : Type 0} → ℕ → ℕ → I → Posted I
posted_item from to item = record { from = from; to = to; item = item }

-- the items of a parcel, each with the parcel's sender and addressee
abbrev pub items_of : {I : Type 0} → Parcel I → List (Posted I)
items_of p = map (posted_item p.from p.to) p.items.items

-- the items of parcels, in order
abbrev pub all_items : {I : Type 0} → List (Parcel I) → List (Posted I)
all_items ps = flat_map items_of ps

-- addressed items, sent by one sender
abbrev pub sent_from : {I : Type 0} → ℕ → List (Addressed I) → List (Posted I)
sent_from from xs = map (λ x. posted_item from x.to x.item) xs

-- the letters of items, where each item has its own
abbrev pub letters_of : {I : Type 0} → (I → Letter) → List (Posted I) → List Letter
letters_of description ps = map (λ p. description p.item) ps
