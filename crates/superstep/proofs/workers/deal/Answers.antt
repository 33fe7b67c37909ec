use Rattle.std.proofs.Common.{◌≡◌, ◌%◌, ◌∷◌, [], ◌++◌, arith, refl, sym}
use Rattle.std.proofs.lemmas.Grind.{common_steps}
use Rattle.superstep.specs.Share.{share}
use Rattle.superstep.proofs.ShareLemmas.{share-more, share-same, set-row}
use Rattle.superstep.proofs.workers.deal.Goals as goal

pub dealing-preserved : goal.dealing-preserved
dealing-preserved c =
    let inv = c.dealing.invariant in
    let at = c.dealing.number % c.args.workers in
    let row = c.index_mut.result.now in
    let was : row.seats.items ≡ share at c.args.workers 0 c.dealing.yielded = let h = inv.each at row (omega arith) in grind (arith, common_steps) in
    let pushed : c.push.new.self.items ≡ row.seats.items ++ c.in-Some.seat ∷ [] = grind (arith, common_steps) in
    record {
      long = inv.long;
      count = grind (arith, common_steps);
      each = λ w d low. set-row (λ q. q.seats.items ≡ share w c.args.workers 0 (c.dealing.yielded ++ c.in-Some.seat ∷ []))
          c.dealing.jobs.items at w _ d (omega arith)
          (λ here. rw here (rw (share-more at c.args.workers c.dealing.number c.dealing.yielded c.in-Some.seat inv.count refl) (rw pushed (rw was refl))))
          (λ there. rw (share-same w c.args.workers c.dealing.number c.dealing.yielded c.in-Some.seat inv.count (λ e. there (sym e))) (inv.each w d low));
    }
