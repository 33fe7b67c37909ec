use Rattle.std.proofs.Common.{◌≡◌, ap, sum, arith, ◌∙◌}
use Rattle.std.specs.Prelude.{List, ℕ}
use Rattle.alias_table.proofs.TableLemmas.{alias-none, alias-some}
use Rattle.alias_table.proofs.table.AliasTable.alias.Goals as goal

pub returns-then-here-self : goal.returns-then-here-self
returns-then-here-self c =
    let size : c.self.inside.whole ≡ sum c.args.self.now = c.self.invariant.whole_is ∙ ap (λ (ws : List ℕ). sum ws) c.self.view_is in
    alias-some c.args.self.now c.args.column _ _ c.column-here.ensures (omega (arith, size, c.if-here-self.true))

pub returns-else-here-self : goal.returns-else-here-self
returns-else-here-self c =
    let size : c.self.inside.whole ≡ sum c.args.self.now = c.self.invariant.whole_is ∙ ap (λ (ws : List ℕ). sum ws) c.self.view_is in
    alias-none c.args.self.now c.args.column _ c.column-here.ensures.part_is (omega (arith, size, c.if-here-self.false))
