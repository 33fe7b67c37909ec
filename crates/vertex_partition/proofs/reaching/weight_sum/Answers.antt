use Rattle.std.proofs.Common.{◌≡◌, false, sym, ap, sum, map, ◌∙◌, arith}
use Rattle.vertex_partition.specs.OutWeights.{out_weight}
use Rattle.vertex_partition.proofs.WeightLaws.{unweighted-sum}
use Rattle.vertex_partition.proofs.reaching.weight_sum.Goals as goal

pub returns-then-not-weighted : goal.returns-then-not-weighted
returns-then-not-weighted c =
    let flag : c.args.weighted ≡ false = c.if-not-weighted.true in
    record {
      sum = unweighted-sum c.args.row.now ∙ ap (λ b. sum (map (out_weight b) c.args.row.now)) (sym flag);
      bound = let few = c.requires.few in omega arith;
    }
