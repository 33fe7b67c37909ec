use Rattle.std.proofs.Common.{◌≡◌, replicate, ◌∙◌}
use Rattle.vertex_partition.specs.Tabled.{HasTable}
use Rattle.vertex_partition.proofs.TablingLemmas.{shared-kept, shared-set}
use Rattle.vertex_partition.proofs.tabling.shared_table.Goals as goal

pub returns-clause-shared : goal.returns-clause-shared
returns-clause-shared c =
    let ones : c.deref.result.now ≡ replicate c.args.count 1 = c.deref.ensures.value ∙ c.in_ok-ones.ensures.items_if_clones_equal (λ y h. h) in
    let has : HasTable c.add_table.new.made.items c.in_ok-number.number (replicate c.args.count 1) = rw ones at c.in_ok-number.ensures.number in
    shared-set c.add_table.new.made.items c.args.shared.now c.args.count c.in_ok-number.number c.requires.within
    (shared-kept c.args.made.now.items c.add_table.new.made.items c.args.shared.now c.in_ok-number.ensures.keeps c.requires.shared) has
