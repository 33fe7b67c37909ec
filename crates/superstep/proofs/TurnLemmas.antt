-- The turns of all shards are a round of each.
use Rattle.std.proofs.Common.{◌≡◌, ◌<◌, List, [], ◌∷◌, ◌++◌, map, length, get_or, refl, ap, sym, ◌∙◌, arith, subst, true}
use Rattle.std.specs.Prelude.{All, Vec}
use Rattle.std.specs.declared.alloc.Global.{Global}
use Rattle.std.specs.List.{AllZip, flat_map}
use Rattle.std.specs.List.Sorted.{IsPermutation}
use Rattle.std.proofs.lemmas.List.{length-map, get_or-map, map-append}
use Rattle.std.proofs.lemmas.List.Concat.{flat_map-append}
use Rattle.std.proofs.lemmas.List.Elements.{All-cons, All-nil}
use Rattle.std.proofs.lemmas.List.Sorted.{IsPermutation-refl, IsPermutation-append}
use Rattle.walker_mail.specs.declared.parcels.Parcel.{Parcel}
use Rattle.walker_mail.specs.Posts.{all_items, items_of}
use Rattle.shard_core.specs.declared.items.Item.{Item}
use Rattle.shard_core.specs.Shards.{ShardView}
use Rattle.superstep.specs.Boxes.{addressed_of, items_in, joined, opened}
use Rattle.superstep.specs.declared.seats.Seat.{Seat}
use Rattle.superstep.specs.Rounding.{AreReached, HasTurned, HavePacked, IsReady, Reaches}

-- each shard with what came for it is ready
pub ready-each : (shards : List ShardView) (boxes : List (Vec (Parcel Item) Global)) (seats : List Seat) → map (λ s. s.shard) seats ≡ shards
    → map (λ s. s.parcels) seats ≡ boxes → All (λ s. s.whole ≡ true) shards → AreReached shards (opened boxes) → All IsReady seats
ready-each shards boxes seats these those whole reached k d low =
    let s : Seat = get_or seats k d in
    let items : Vec (Parcel Item) Global → List Item = λ b. items_in (all_items b.items) in
    let low_s : k < length shards = omega (arith, low, ap (length {A = ShardView}) these, length-map seats (λ (x : Seat). x.shard)) in
    let low_b : k < length boxes = omega (arith, low, ap (length {A = Vec (Parcel Item) Global}) those, length-map seats (λ (x : Seat). x.parcels)) in
    let shard : get_or shards k s.shard ≡ s.shard =
    ap (λ l. get_or l k s.shard) (sym these) ∙ get_or-map (λ (x : Seat). x.shard) seats k d s.shard low in
    let box : get_or boxes k s.parcels ≡ s.parcels =
    ap (λ l. get_or l k s.parcels) (sym those) ∙ get_or-map (λ (x : Seat). x.parcels) seats k d s.parcels low in
    let list : get_or (opened boxes) k (items s.parcels) ≡ items s.parcels =
    get_or-map items boxes k s.parcels (items s.parcels) low_b ∙ ap items box in
    record {
      whole = subst (λ (x : ShardView). x.whole ≡ true) shard (whole k s.shard low_s);
      reached =
          subst (λ (x : ShardView). All (Reaches x) (items s.parcels)) shard
          (subst (All (Reaches (get_or shards k s.shard))) list (reached.each k s.shard (items s.parcels) low_s));
    }

-- what the turns of all shards come to
pub turned-packed : (befores afters : List Seat) → AllZip HasTurned befores afters
    → HavePacked (map (λ s. s.shard) befores) (opened (map (λ s. s.parcels) befores)) (map (λ s. s.shard) afters) (flat_map (λ s. s.parcels.items) afters)
turned-packed [] [] all = record {
  given = [];
  made = record { rounds = []; before = refl; came = refl; after = refl; out = refl };
  packed = IsPermutation-refl [];
}
turned-packed [] (y ∷ ys) all = absurd all
turned-packed (x ∷ xs) [] all = absurd all
turned-packed (x ∷ xs) (y ∷ ys) all =
    let rest = turned-packed xs ys all.1 in
    let one = all.0 in
    let r = one.round in
    let later = flat_map (λ (s : Seat). s.parcels.items) ys in
    let both : map addressed_of (all_items (y.parcels.items ++ later)) ≡ map addressed_of (all_items y.parcels.items) ++ map addressed_of (all_items later) =
    ap (map addressed_of) (flat_map-append items_of y.parcels.items later) ∙ map-append addressed_of (all_items y.parcels.items) (all_items later) in
    record {
      given = one.out ∷ rest.given;
      made = record {
        rounds = r.0 ∷ rest.made.rounds;
        before = λ n. r.1 n ∷ rest.made.before n;
        came = λ n. r.2 n ∷ rest.made.came n;
        after = λ n. r.3 n ∷ rest.made.after n;
        out = λ n. r.4 n ∷ rest.made.out n;
      };
      packed =
          subst (IsPermutation (one.out ++ joined rest.given)) (sym both)
          (IsPermutation-append one.out (map addressed_of (all_items y.parcels.items)) (joined rest.given) (map addressed_of (all_items later)) one.packed rest.packed);
    }

-- all shards are whole after their turns
pub turned-whole : (befores afters : List Seat) → AllZip HasTurned befores afters → All (λ s. s.whole ≡ true) (map (λ s. s.shard) afters)
turned-whole [] [] all = All-nil (λ (s : ShardView). s.whole ≡ true)
turned-whole [] (y ∷ ys) all = absurd all
turned-whole (x ∷ xs) [] all = absurd all
turned-whole (x ∷ xs) (y ∷ ys) all =
    All-cons (λ (s : ShardView). s.whole ≡ true) y.shard (map (λ (s : Seat). s.shard) ys) all.0.whole (turned-whole xs ys all.1)
