use Rattle.std.proofs.Common.{◌∙◌, ap, map}
use Rattle.std.specs.List.{zip}
use Rattle.std.specs.Iterator.Adapters.{zip_first, zip_second}
use Rattle.std.specs.Vec.Iter.{into_iter_items, into_iter_len}
use Rattle.std.proofs.lemmas.Iterator.{YieldsList-from_zip}
use Rattle.std.proofs.lemmas.Iterator.Adapters.{YieldsList-from_vec}
use Rattle.std.proofs.lemmas.Iterator.Consumers.{YieldsList-end}
use Rattle.std.proofs.lemmas.Slice.Zip.{firsts-zip, seconds-zip}
use Rattle.superstep.proofs.BoxLemmas.{all-yielded}
use Rattle.superstep.proofs.seats.seat_each.Goals as goal

pub returns-clause-shards : goal.returns-clause-shards
returns-clause-shards c =
    let same = c.into_iter-shard-iterator.ensures.into_iter_gives in
    let first = ap zip_first same ∙ c.zip-shard-items.ensures.first in
    let second = c.zip-shard-items.ensures.second in
    let a = YieldsList-from_vec c.args.shards.items (ap into_iter_items first ∙ c.into_iter.ensures.rest) (ap into_iter_len first ∙ c.into_iter.ensures.len ∙ c.args.shards.ok.0) in
    let b = YieldsList-from_vec c.args.boxes.items (ap (λ s. into_iter_items (zip_second s)) same ∙ second.0)
    (ap (λ s. into_iter_len (zip_second s)) same ∙ second.1 ∙ c.args.boxes.ok.0) in
    let t = YieldsList-end (YieldsList-from_zip a b) c.seating.yielded c.seating.shard-iterator c.seating.yielded_by c.next.result c.next.new.self c.in-None.is c.next.ensures.steps in
    c.seating.invariant.shards ∙ ap (map (λ p. p.0)) (all-yielded c.seating.yielded (zip c.args.shards.items c.args.boxes.items) t.0)
    ∙ firsts-zip c.args.shards.items c.args.boxes.items c.requires

pub returns-clause-parcels : goal.returns-clause-parcels
returns-clause-parcels c =
    let same = c.into_iter-shard-iterator.ensures.into_iter_gives in
    let first = ap zip_first same ∙ c.zip-shard-items.ensures.first in
    let second = c.zip-shard-items.ensures.second in
    let a = YieldsList-from_vec c.args.shards.items (ap into_iter_items first ∙ c.into_iter.ensures.rest) (ap into_iter_len first ∙ c.into_iter.ensures.len ∙ c.args.shards.ok.0) in
    let b = YieldsList-from_vec c.args.boxes.items (ap (λ s. into_iter_items (zip_second s)) same ∙ second.0)
    (ap (λ s. into_iter_len (zip_second s)) same ∙ second.1 ∙ c.args.boxes.ok.0) in
    let t = YieldsList-end (YieldsList-from_zip a b) c.seating.yielded c.seating.shard-iterator c.seating.yielded_by c.next.result c.next.new.self c.in-None.is c.next.ensures.steps in
    c.seating.invariant.parcels ∙ ap (map (λ p. p.1)) (all-yielded c.seating.yielded (zip c.args.shards.items c.args.boxes.items) t.0)
    ∙ seconds-zip c.args.shards.items c.args.boxes.items c.requires
