use Rattle.std.proofs.Common.{◌≡◌, List, ℕ, length, ap}
use Rattle.vertex_partition.proofs.TablingLemmas.{all-tabled}
use Rattle.vertex_partition.proofs.tabling.tables_by.Goals as goal

pub returns-clause-tables : goal.returns-clause-tables
returns-clause-tables g c =
    let count : length c.as_slice.result.now ≡ length c.in_ok-made.field-0.made.items = ap (λ (l : List (List ℕ)). length l) c.as_slice.ensures.value in
    all-tabled c.args.weighted c.class_rows.new.rows c.mark_lone.new.rows c.in_ok-made.field-0.made.items c.in_ok-own.own.items c.append.new.self.items
    c.in_ok-made.field-0.lone.items c.as_slice-lone.result.now (length c.as_slice.result.now) c.as_slice-lone.ensures.value
    count c.in_ok-append.ensures.items c.in_ok-made.ensures.tables c.in_ok-own.ensures c.mark_lone.ensures.tables
