use Rattle.std.proofs.Common.{◌≡◌, [], ◌∷◌, false, true, sym, ◌∙◌, arith}
use Rattle.std.proofs.lemmas.Grind.{common_steps}
use Rattle.std.specs.List.Sorted.{IsStrictlySortedBy}
use Rattle.std.specs.Map.{keys_of}
use Rattle.std.specs.String.{string_cmp, string_bytes}
use Rattle.toml.proofs.Views.{Entry}
use Rattle.walk_programme.specs.Table.{is_known, least_unknown}
use Rattle.walk_programme.proofs.KeyLemmas.{least_unknown-first, least_unknown-known, sorted-rest}
use Rattle.walk_programme.proofs.table.least_unknown.Goals as goal

pub returns-then-not-is_known : goal.returns-then-not-is_known
returns-then-not-is_known c =
    let (can, finite, same, sorted) = c.loop-key.invariant in
    let e : Entry = (c.in-Some.key.now, c.in-Some.field-0-1.now) in
    let iter : c.loop-key.key-iterator ≡ e ∷ c.next.new.self = grind (arith, common_steps) in
    let other : is_known (string_bytes e.0) ≡ false = grind (arith, common_steps) in
    let whole : IsStrictlySortedBy string_cmp (keys_of (e ∷ c.next.new.self)) = rw iter at sorted in
    least_unknown-first e c.next.new.self whole other ∙ rw iter at same

pub loop-key-preserved : goal.loop-key-preserved
loop-key-preserved c =
    let (can, finite, same, sorted) = c.loop-key.invariant in
    let e : Entry = (c.in-Some.key.now, c.in-Some.field-0-1.now) in
    let iter : c.loop-key.key-iterator ≡ e ∷ c.next.new.self = grind (arith, common_steps) in
    let known : is_known (string_bytes e.0) ≡ true = grind (arith, common_steps) in
    let whole : IsStrictlySortedBy string_cmp (keys_of (e ∷ c.next.new.self)) = rw iter at sorted in
    (tt, tt, sym (least_unknown-known e c.next.new.self known) ∙ rw iter at same, sorted-rest e c.next.new.self whole)

pub returns : goal.returns
unfolding least_unknown
returns c =
    let (can, finite, same, sorted) = c.loop-key.invariant in
    let none : c.loop-key.key-iterator ≡ [] = grind (arith, common_steps) in
    rw none at same
