use Rattle.std.proofs.Common.{◌≡◌, ◌<◌, ◌∙◌, length, refl, ap, arith}
use Rattle.std.proofs.lemmas.Grind.{common_steps}
use Rattle.std.proofs.lemmas.Option.{slice_get_read}
use Rattle.std.proofs.lemmas.List.Sorted.{IsPermutation-remove}
use Rattle.walker_mail.specs.Carriers.{place_by}
use Rattle.walker_mail.proofs.shuffled.ShuffledCarrier.hand_over.Goals as goal

pub returns-clause-rearranged : goal.returns-clause-rearranged
returns-clause-rearranged g c =
    let items = c.self.inside.items.items in
    let place = c.next_place-place.result in
    let low : place < length items = grind (arith, common_steps) in
    rw (c.in_ok-given-in-Some.ensures, c.in-Some.ensures.items, ← c.self.view_is)
    (IsPermutation-remove items place c.in-Some.item low c.in-Some.ensures.value)

pub returns-clause-one : goal.returns-clause-one
returns-clause-one g c =
    let items = c.self.inside.items.items in
    let place = c.next_place-place.result in
    let low : place < length items = grind (arith, common_steps) in
    let many : c.len.result ≡ length items = grind (arith, common_steps) in
    let at : place ≡ place_by c.self.inside.seed c.self.inside.turns (length items) =
    c.next_place-place.ensures.place ∙ ap (place_by c.self.inside.seed c.self.inside.turns) many in
    rw (c.in_ok-given-in-Some.ensures, ← c.self.view_is, ← at, slice_get_read items (length items) place c.in-Some.item refl low c.in-Some.ensures.value) refl
