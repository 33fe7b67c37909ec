use Rattle.std.proofs.Common.{◌≡◌, length, arith}
use Rattle.walk_top.proofs.CarriageLemmas.{carried-alone, on-all}
use Rattle.walk_top.proofs.walking.take_walks.Goals as goal

pub returns-then-len-eq1-clause-carried : goal.returns-then-len-eq1-clause-carried
returns-then-len-eq1-clause-carried g c =
    let one : length c.args.parts.items ≡ 1 = omega (arith, c.if-len-eq1.true, c.len.ensures, c.args.parts.ok.0) in
    on-all c.walk_all.result _ (λ q cuts of. carried-alone q c.args.run cuts c.args.parts.items _ _ _ of one)
