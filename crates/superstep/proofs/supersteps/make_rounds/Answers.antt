use Rattle.std.proofs.Common.{◌≡◌, map, true, List, sym, subst}
use Rattle.std.specs.Prelude.{All, Vec}
use Rattle.std.specs.List.{flat_map}
use Rattle.std.specs.declared.alloc.Global.{Global}
use Rattle.walker_mail.specs.declared.parcels.Parcel.{Parcel}
use Rattle.shard_core.specs.declared.items.Item.{Item}
use Rattle.shard_core.specs.Shards.{ShardView}
use Rattle.superstep.specs.Boxes.{opened}
use Rattle.superstep.specs.Rounding.{HavePacked}
use Rattle.superstep.proofs.TurnLemmas.{ready-each, turned-packed, turned-whole}
use Rattle.superstep.proofs.supersteps.make_rounds.Goals as goal

pub work_side_by_side-requires-clause-ready : goal.work_side_by_side-requires-clause-ready
work_side_by_side-requires-clause-ready g c κs within =
    ready-each c.args.shards.items c.args.boxes.items c.in_ok-seats.seats.items c.in_ok-seats.ensures.shards c.in_ok-seats.ensures.parcels
    c.requires.whole c.requires.reached

pub returns-clause-made : goal.returns-clause-made
returns-clause-made g c =
    let befores = c.in_ok-seats.seats.items in
    let afters = c.in_ok-turned.turned.items in
    let news = map (λ s. s.shard) afters in
    let out = flat_map (λ s. s.parcels.items) afters in
    let packed = turned-packed befores afters c.in_ok-turned.ensures in
    subst (λ (l : List ShardView). HavePacked c.args.shards.items (opened c.args.boxes.items) l c.in_ok-parted.parted.1.items) (sym c.in_ok-parted.ensures.shards)
    (subst (HavePacked c.args.shards.items (opened c.args.boxes.items) news) (sym c.in_ok-parted.ensures.parcels)
    (subst (λ (l : List ShardView). HavePacked l (opened c.args.boxes.items) news out) c.in_ok-seats.ensures.shards
    (subst (λ (l : List (Vec (Parcel Item) Global)). HavePacked (map (λ s. s.shard) befores) (opened l) news out) c.in_ok-seats.ensures.parcels packed)))

pub returns-clause-whole : goal.returns-clause-whole
returns-clause-whole g c =
    subst (All (λ (s : ShardView). s.whole ≡ true)) (sym c.in_ok-parted.ensures.shards)
    (turned-whole c.in_ok-seats.seats.items c.in_ok-turned.turned.items c.in_ok-turned.ensures)
