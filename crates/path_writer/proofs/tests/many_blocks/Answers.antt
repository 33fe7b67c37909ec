use Rattle.std.proofs.Common.{◌≡◌, ◌<◌, ℕ, [], ◌∷◌, length, All, rules, arith}
use Rattle.std.proofs.lemmas.List.Elements.{All-cons}
use Rattle.path_writer.proofs.tests.many_blocks.Goals as goal

both-below : (n a b : ℕ) → a < n → b < n → All (λ x. x < n) (a ∷ b ∷ [])
both-below n a b p q =
    All-cons (λ x. x < n) a (b ∷ []) p (All-cons (λ x. x < n) b [] q (λ k d low. absurd (omega arith)))

pub of-finished-requires-clause-below : goal.of-finished-requires-clause-below
of-finished-requires-clause-below g c =
    let begins : c.in_ok-vec.field-0.items ≡ 0 ∷ 30000 ∷ [] = search rules in
    let long : length c.push.new.self.items ≡ 30001 = omega (arith, c.push.new.self.ok.0, c.in_ok-push.ensures.len, c.in_ok-entries.ensures.len) in
    rw (begins, long) (both-below 30001 0 30000 (omega arith) (omega arith))
