use Rattle.std.proofs.Common.{◌≡◌, get_or, Some, None, ap, ◌∙◌}
use Rattle.toml.specs.View.{view}
use Rattle.walk_programme.specs.Judges.{whole}
use Rattle.walk_programme.proofs.TypeLemmas.{in_front, types_in-more, types_in-none, types_in-end}
use Rattle.walk_programme.proofs.judges.types_in.Goals as goal

pub returns-in-None : goal.returns-in-None
returns-in-None c =
    let vs = c.deref-value-items.result.now in
    let i = c.loop-value.value-index in
    let d = c.value-item.result in
    let bad : None ≡ whole 255 (view (get_or vs i d)) = rw (← c.value-item.is) c.in-None.ensures.value in
    rw (← c.deref-value-items.ensures.value) (c.loop-value.invariant ∙ ap (in_front c.loop-value.types.items) (types_in-none vs i d c.loop-value-test.true bad))

pub loop-value-preserved : goal.loop-value-preserved
loop-value-preserved c =
    let vs = c.deref-value-items.result.now in
    let i = c.loop-value.value-index in
    let d = c.value-item.result in
    let good : Some c.in-Some.kind ≡ whole 255 (view (get_or vs i d)) = rw (← c.value-item.is) c.in-Some.ensures.value in
    rw c.in_ok-push-in-Some.ensures.items (c.loop-value.invariant ∙ types_in-more vs i d c.loop-value.types.items c.in-Some.kind c.loop-value-test.true good)

pub returns : goal.returns
returns c =
    let vs = c.deref-value-items.result.now in
    rw (← c.deref-value-items.ensures.value) (c.loop-value.invariant ∙ types_in-end vs c.loop-value.value-index c.loop-value.types.items c.loop-value-test.false)
