-- What a carrier holds is in flight.
use Rattle.std.proofs.Common.{◌≡◌, ℕ, ◌++◌, ◌<◌, List, [], ◌∷◌, map, length, get_or, ap, sym, ◌∙◌, arith, subst}
use Rattle.std.specs.Prelude.{Option, All}
use Rattle.std.proofs.lemmas.List.{append-nil, length-map, map-append, get_or-map}
use Rattle.std.proofs.lemmas.List.Concat.{flat_map-append}
use Rattle.walk_model.specs.declared.messages.Letter.{Letter}
use Rattle.csr_store.specs.RowGraph.{RowGraph}
use Rattle.traveller.specs.declared.runs.Run.{Run}
use Rattle.traveller.specs.Standing.{parted}
use Rattle.walker_mail.specs.declared.parcels.Addressed.{Addressed}
use Rattle.walker_mail.specs.declared.parcels.Parcel.{Parcel}
use Rattle.walker_mail.specs.declared.parcels.Posted.{Posted}
use Rattle.walker_mail.specs.Posts.{all_items, items_of}
use Rattle.world_law.specs.Soundness.{IsSound}
use Rattle.world_law.specs.Worlds.{Comes, all_pieces}
use Rattle.shard_core.specs.declared.items.Item.{Item}
use Rattle.shard_core.specs.declared.worlds.World.{World}
use Rattle.shard_core.specs.Items.{item_of}
use Rattle.shard_core.specs.Shards.{ShardView, shard_of}
use Rattle.shard_core.specs.SoundWorlds.{AreShardsOf, IsInFlight, IsSoundWorld, flight_of}
use Rattle.shard_core.specs.Taking.{FitsAmong}
use Rattle.superstep.specs.Boxes.{addressed_of}
use Rattle.superstep.specs.Moments.{IsAddressed, Stands, moment, sent_of}
use Rattle.superstep.proofs.StandLemmas.{all-unmap}
use Rattle.superstep.proofs.StepLemmas.{sent-addressed}

-- the items of one more parcel are in flight
pub flown-more : (ps : List (Parcel Item)) (p : Parcel Item) (before after : List (Addressed Item)) → before ≡ map addressed_of (all_items ps)
    → after ≡ before ++ map addressed_of (items_of p) → after ≡ map addressed_of (all_items (ps ++ p ∷ []))
flown-more ps p before after was is =
    is ∙ ap (λ l. l ++ map addressed_of (items_of p)) was ∙ sym (map-append addressed_of (all_items ps) (items_of p))
    ∙ ap (map addressed_of) (sym (flat_map-append items_of ps (p ∷ []) ∙ ap (λ l. all_items ps ++ l) (append-nil (items_of p))))

-- a world whose flight is what was posted and not yet taken in is a sound one
pub flight-sound : (g : RowGraph) (run : Run) (cuts : List ℕ) (w : World) (shards : List ShardView) (held : List (Posted Item)) (carried : ℕ)
    (log : Option (List Letter)) → w.shards.items ≡ shards → w.flight.items ≡ map addressed_of held → All IsAddressed held
    → Stands g run cuts (moment shards [] (sent_of held) carried log) → IsSoundWorld g run cuts w
flight-sound g run cuts w shards held carried log these is addressed stands =
    let seen : flight_of w.flight.items ≡ sent_of held = ap flight_of is ∙ sent-addressed held in
    record {
      shards = subst (AreShardsOf g run cuts) (sym these) stands.shards;
      flight = subst (All (IsInFlight run.vertices cuts)) (sym is) (each held addressed (all-unmap (FitsAmong run.vertices cuts) (λ (p : Posted Item). item_of p.item) held stands.held));
      sound =
          subst (λ l. IsSound (parted g run cuts) (all_pieces (map shard_of w.shards.items) ++ map Comes l)) (sym seen)
          (subst (λ l. IsSound (parted g run cuts) (all_pieces (map shard_of l) ++ map Comes (sent_of held))) (sym these) stands.sound);
    }
  where
    each : (ps : List (Posted Item)) → All IsAddressed ps → All (λ p. FitsAmong run.vertices cuts (item_of p.item)) ps
        → All (IsInFlight run.vertices cuts) (map addressed_of ps)
    each ps home fits k d low =
        let within : k < length ps = omega (arith, low, length-map ps addressed_of) in
        let p : Posted Item = get_or ps k (record { from = 0; to = d.to; item = d.item }) in
        let same : get_or (map addressed_of ps) k d ≡ addressed_of p = get_or-map addressed_of ps k (record { from = 0; to = d.to; item = d.item }) d within in
        subst (IsInFlight run.vertices cuts) (sym same)
        (record { addressed = home k (record { from = 0; to = d.to; item = d.item }) within; fits = fits k (record { from = 0; to = d.to; item = d.item }) within })
