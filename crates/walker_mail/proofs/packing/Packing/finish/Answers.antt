use Rattle.std.proofs.Common.{◌≡◌, ◌++◌, rules}
use Rattle.std.proofs.lemmas.List.Sorted.{answers_always, IsNonDecreasingBy-from_sort_by_key}
use Rattle.walker_mail.proofs.FinishLemmas.{all_packed, all_moved}
use Rattle.walker_mail.proofs.packing.Packing.finish.Goals as goal

pub returns-clause-packed : goal.returns-clause-packed
returns-clause-packed g c = λ from limit xs packing.
    let joined : c.append.new.self.items ≡ c.args.self.full.items ++ c.args.self.last.items = c.in_ok-append.ensures.items in
    let answers = answers_always _ _ _ (λ f a r q k. search rules) in
    all_packed from limit xs c.args.self.full.items c.args.self.last.items c.sort_by_key.new.self.items packing
    (rw joined at c.in_ok-sort_by_key.ensures.permutation)
    (rw joined at (c.in_ok-sort_by_key.ensures.stable (λ p. p.to) answers))
    (IsNonDecreasingBy-from_sort_by_key (λ p. p.to) _ c.in_ok-sort_by_key.ensures.sorted (λ a r q k. search rules))

pub returns-clause-all : goal.returns-clause-all
returns-clause-all g c = λ from limit xs packing.
    let joined : c.append.new.self.items ≡ c.args.self.full.items ++ c.args.self.last.items = c.in_ok-append.ensures.items in
    all_moved from limit xs c.args.self.full.items c.args.self.last.items c.sort_by_key.new.self.items packing
    (rw joined at c.in_ok-sort_by_key.ensures.permutation)
