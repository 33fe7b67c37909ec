-- What a turn comes to, by the steps and the letters of the plain walk.
use Rattle.std.proofs.Common.{◌≡◌, ℕ, ◌<◌, true, ◌++◌, refl, ap, sym, ◌∙◌}
use Rattle.walk_model.specs.Letters.{move_letters}
use Rattle.traveller.specs.declared.modes.Mode.{Mode}
use Rattle.traveller.specs.declared.modes.Mode.TheVariants.{Fresh, Darts, Asked, AskedRow, Chosen, Over}
use Rattle.traveller.specs.PartedRuns.{PartedRun, journey_from}
use Rattle.traveller.specs.Walkers.{Walker, first_walker, is_ready}
use Rattle.traveller.specs.Turns.{asker_at, advance}
use Rattle.world_law.specs.Truth.{IsTrueTo}
use Rattle.world_law.specs.LettersLeft.{letters_from}
use Rattle.world_law.specs.TurnsOf.{TurnOf, moved, asked, ended}
use Rattle.world_law.proofs.ThrowLemmas.{mode_pair}
use Rattle.world_law.proofs.TurnLemmas.{IsRest, TrueOutcome, makes, rests, advance-true_outcome}
use Rattle.world_law.proofs.TruthLemmas.{step-steps, stepped-true, rests-true, letters_from-stepped}
use Rattle.world_law.proofs.SuffixLemmas.{question-pair}
use Rattle.world_law.proofs.HistoryLemmas.{starter-true}

-- it stays true
pub turn-true : (g : PartedRun) (v : Walker) → is_ready v.mode ≡ true → IsTrueTo g v → IsTrueTo g (advance g v)
turn-true g v ready h = by (advance g v) (advance-true_outcome g v ready h)
  where
    by : (w : Walker) → TrueOutcome (journey_from g v.number v.start) v v.mode w → IsTrueTo g w
    by w (makes t e is l) = rw is (stepped-true g v t h e)
    by w (rests m r p is l) = rw is (rests-true g v m h p)

-- a turn that comes to rest
rest-of : (g : PartedRun) (v : Walker) (m : Mode) → IsRest m → IsTrueTo g (record v { mode = m })
    → letters_from g v ≡ mode_pair g.edges (asker_at (journey_from g v.number v.start) v.state) m ++ letters_from g (record v { mode = m })
    → TurnOf g v (record v { mode = m })
unfolding letters_from
rest-of g v Fresh r h l = absurd r
rest-of g v (Darts left place) r h l = absurd r
rest-of g v (Chosen edge place) r h l = absurd r
rest-of g v (Asked left place q) r h l =
    let w : Walker = record v { mode = Asked left place q } in
    asked q refl refl (l ∙ ap (λ p. p ++ letters_from g w) (question-pair g w q h refl))
rest-of g v (AskedRow place q) r h l =
    let w : Walker = record v { mode = AskedRow place q } in
    asked q refl refl (l ∙ ap (λ p. p ++ letters_from g w) (question-pair g w q h refl))
rest-of g v Over r h l = ended refl refl h.mode l

-- a turn of a true walker
pub turn-of : (g : PartedRun) (v : Walker) → is_ready v.mode ≡ true → IsTrueTo g v → TurnOf g v (advance g v)
unfolding letters_from
turn-of g v ready h = by (advance g v) (advance-true_outcome g v ready h)
  where
    by : (w : Walker) → TrueOutcome (journey_from g v.number v.start) v v.mode w → TurnOf g v w
    by w (makes t e is l) =
        let j = journey_from g v.number v.start in
        let later = letters_from-stepped g v t (step-steps j v.length v.state t e) in
        rw is (moved refl e (l ∙ ap (λ ls. move_letters j v.state t ++ ls) (sym later)))
    by w (rests m r p is l) = rw is (rest-of g v m r (rests-true g v m h p) l)

-- a walker at its start is true
pub first-true : (g : PartedRun) (n : ℕ) → n < g.walkers → IsTrueTo g (first_walker n (g.start n) g.plan.length)
first-true g n h = starter-true g n h
