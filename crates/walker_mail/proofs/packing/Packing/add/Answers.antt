use Rattle.std.proofs.Common.{◌≡◌, ◌<◌, ◌≤◌, ◌∙◌, true, false, nat_lt, [], length, drop, refl, sym, rules, arith}
use Rattle.std.specs.Prelude.{All}
use Rattle.std.specs.List.Sorted.{IsPartitionPoint}
use Rattle.std.proofs.lemmas.Grind.{common_steps}
use Rattle.std.proofs.lemmas.List.{get_or_read, drop_all}
use Rattle.std.proofs.lemmas.List.Elements.{All-nil}
use Rattle.std.proofs.lemmas.List.Sorted.{IsPartitionPoint-from_clause, IsPartitionedBy-ltb}
use Rattle.walker_mail.proofs.RiseLemmas.{rises_far}
use Rattle.walker_mail.proofs.PlaceLemmas.{above_place, add_new, add_grow, add_next}
use Rattle.walker_mail.proofs.packing.Packing.add.Goals as goal
use Rattle.walker_mail.proofs.packing.Packing.add.Goals.{then-place-len-via-then-place-len, then-place-len-via-else-place-len+then-index-to}

pub returns-then-place-len : goal.returns-then-place-len
returns-then-place-len g c = λ xs packing.
    let last = c.args.self.now.last.items in
    let place = c.partition_point-place.result in
    let to = c.args.addressed.to in
    let rises = rises_far last packing.rises in
    let point : IsPartitionPoint (λ r. nat_lt r.to to ≡ true) (λ r. nat_lt r.to to ≡ false) last place =
    rw c.deref.ensures.value at (IsPartitionPoint-from_clause (λ r. nat_lt r.to to) c.deref.result.now place c.partition_point-place.ensures.partitioned
    (IsPartitionedBy-ltb (λ r. r.to) c.deref.result.now to (rw c.deref.ensures.value rises)) (λ a r f' k. search rules)) in
    let above : All (λ r. to < r.to) (drop place last) = elim c.then-place-len.branch [
      | then-place-len-via-then-place-len w ↦
          let cut : drop place last ≡ [] = drop_all place last (grind (arith, common_steps)) in
          rw cut (All-nil _)
      | then-place-len-via-else-place-len+then-index-to w ↦
          let low : place < length last = grind (arith, common_steps) in
          above_place to place last w.index.result.now low w.index.ensures packing.rises point.1 (λ same. search rules)
    ] in
    rw c.in_ok-insert.ensures.items
    (add_new c.args.from c.args.limit xs c.args.addressed c.args.self.now.full.items last place c.in_ok-parcel.parcel
    c.requires packing point.0 above c.in_ok-parcel.ensures.from c.in_ok-parcel.ensures.to c.in_ok-parcel.ensures.items)

pub returns-then-len-limit : goal.returns-then-len-limit
returns-then-len-limit g c = λ xs packing.
    let last = c.args.self.now.last.items in
    let place = c.partition_point-place.result in
    let to = c.args.addressed.to in
    let rises = rises_far last packing.rises in
    let point : IsPartitionPoint (λ r. nat_lt r.to to ≡ true) (λ r. nat_lt r.to to ≡ false) last place =
    rw c.deref.ensures.value at (IsPartitionPoint-from_clause (λ r. nat_lt r.to to) c.deref.result.now place c.partition_point-place.ensures.partitioned
    (IsPartitionedBy-ltb (λ r. r.to) c.deref.result.now to (rw c.deref.ensures.value rises)) (λ a r f' k. search rules)) in
    let low : place < length last = grind (arith, common_steps) in
    let one : c.index.result.now ≡ c.index_mut.result.now =
    get_or_read last place c.index.result.now low c.index.ensures c.index_mut.result.now ∙ sym c.index_mut.ensures.value in
    let two : c.index-2.result.now ≡ c.index_mut.result.now =
    get_or_read last place c.index-2.result.now low c.index-2.ensures c.index_mut.result.now ∙ sym c.index_mut.ensures.value in
    let own : c.index_mut.result.now.to ≡ to = rw (← one) (search rules) in
    let room : length c.index_mut.result.now.items.items < c.args.limit = rw (← two) (grind (arith, common_steps)) in
    add_grow c.args.from c.args.limit xs c.args.addressed c.args.self.now.full.items last place c.index_mut.result.now _
    packing point.0 low c.index_mut.ensures.value own room refl refl c.in_ok-push.ensures.items

pub returns : goal.returns
returns g c = λ xs packing.
    let last = c.args.self.now.last.items in
    let place = c.partition_point-place.result in
    let to = c.args.addressed.to in
    let rises = rises_far last packing.rises in
    let point : IsPartitionPoint (λ r. nat_lt r.to to ≡ true) (λ r. nat_lt r.to to ≡ false) last place =
    rw c.deref.ensures.value at (IsPartitionPoint-from_clause (λ r. nat_lt r.to to) c.deref.result.now place c.partition_point-place.ensures.partitioned
    (IsPartitionedBy-ltb (λ r. r.to) c.deref.result.now to (rw c.deref.ensures.value rises)) (λ a r f' k. search rules)) in
    let low : place < length last = grind (arith, common_steps) in
    let was : c.replace-filled.result ≡ c.index_mut-2.result.now = c.replace-filled.ensures.value in
    let one : c.index.result.now ≡ c.index_mut-2.result.now =
    get_or_read last place c.index.result.now low c.index.ensures c.index_mut-2.result.now ∙ sym c.index_mut-2.ensures.value in
    let two : c.index-2.result.now ≡ c.index_mut-2.result.now =
    get_or_read last place c.index-2.result.now low c.index-2.ensures c.index_mut-2.result.now ∙ sym c.index_mut-2.ensures.value in
    let own : c.index_mut-2.result.now.to ≡ to = rw (← one) (search rules) in
    let whole : c.args.limit ≤ length c.index_mut-2.result.now.items.items = rw (← two) (grind (arith, common_steps)) in
    rw (c.in_ok-push-2.ensures.items, was, c.replace-filled.ensures.after)
    (add_next c.args.from c.args.limit xs c.args.addressed c.args.self.now.full.items last place c.index_mut-2.result.now c.in_ok-parcel-2.parcel
    c.requires packing point.0 low c.index_mut-2.ensures.value own whole c.in_ok-parcel-2.ensures.from c.in_ok-parcel-2.ensures.to c.in_ok-parcel-2.ensures.items)
