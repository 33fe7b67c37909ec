use Rattle.std.proofs.Common.{◌≡◌, ap, ◌∙◌}
use Rattle.std.specs.Prelude.{IfOk}
use Rattle.rayon.proofs.ToStd.{slice-AllZip}
use Rattle.vertex_partition.specs.Tabled.{row_weights}
use Rattle.vertex_partition.proofs.OkLemmas.{all-ok}
use Rattle.vertex_partition.proofs.own_tables.own_tables.Goals as goal

pub returns : goal.returns
returns g c =
    let slice = ap (λ it. it.slice.now) c.map.ensures.base ∙ c.par_iter.ensures in
    let h = c.in_ok-made.ensures in
    let chain = h.1 in
    let rows : c.map.result.f.1.now ≡ c.args.rows.now = ap (λ k. k.1.now) c.map.ensures.f in
    let weighted : c.map.result.f.2.now ≡ c.args.weighted = ap (λ k. k.2.now) c.map.ensures.f in
    rw (← rows, ← weighted)
    (all-ok c.args.lone.now (row_weights c.map.result.f.2.now c.map.result.f.1.now) h.0 c.in_ok-made.made
    (slice-AllZip chain.0 c.args.lone.now (chain.1 ∙ slice) (λ v r. IfOk r (λ t. t ≡ row_weights c.map.result.f.2.now c.map.result.f.1.now v)) h.0 chain.2)
    h.2)
