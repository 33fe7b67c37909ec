use Rattle.std.proofs.Common.{◌≡◌, ◌+◌, ◌∙◌, length, sum, arith}
use Rattle.shard_core.proofs.BatchLemmas.{below-more}
use Rattle.shard_core.proofs.gathering.add_walks.Goals as goal

pub put_each-requires : goal.put_each-requires
put_each-requires c =
    let end : length c.as_mut_slice.result.now ≡ length c.args.entries.now.items + sum c.args.counts.now =
    omega (arith, c.as_mut_slice.ensures.len, c.in_ok-resize.ensures.len, c.in_ok-end.ensures.end, c.len.ensures, c.args.entries.now.ok.0) in
    below-more c.args.begins.now.items c.args.counts.now c.as_slice.result.now (length c.args.entries.now.items) c.len.result (length c.as_mut_slice.result.now)
    c.requires.below c.requires.some (c.as_slice.ensures.value ∙ c.in_ok-end.ensures.begins) (omega (arith, c.len.ensures, c.args.entries.now.ok.0)) end
