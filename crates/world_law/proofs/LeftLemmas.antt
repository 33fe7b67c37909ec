-- Turns come to an end: each that leaves a walker ready leaves it fewer steps.
use Rattle.std.proofs.Common.{◌≡◌, ◌-◌, ◌<◌, Bool, true, false, refl, ap, sym, ◌∙◌, arith}
use Rattle.std.specs.Prelude.{nat_lt, if◌then◌else◌}
use Rattle.std.proofs.lemmas.Bool.{ltb-true, false≢true}
use Rattle.walk_model.specs.Letters.{Journey}
use Rattle.traveller.specs.declared.modes.Mode.{Mode}
use Rattle.traveller.specs.declared.modes.Mode.TheVariants.{Fresh, Darts, Asked, AskedRow, Chosen, Over}
use Rattle.traveller.specs.PartedRuns.{PartedRun, journey_from}
use Rattle.traveller.specs.Walkers.{Walker, is_ready}
use Rattle.traveller.specs.Turns.{begun, turned, advance}
use Rattle.world_law.specs.TurnsOf.{HasStepLeft}
use Rattle.world_law.proofs.TurnLemmas.{Outcome, makes, rests, IsRest, advance-outcome}

rest-fresh : (m : Mode) → IsRest m → m ≡ Fresh → ⊥
rest-fresh Fresh r e = r
rest-fresh (Darts left place) r e = r
rest-fresh (Chosen edge place) r e = r
rest-fresh (Asked left place q) r e = absurd (cc)
rest-fresh (AskedRow place q) r e = absurd (cc)
rest-fresh Over r e = absurd (cc)

-- a step begins only where the walk may still make one
begun-going : (j : Journey) (v : Walker) → (begun j v).mode ≡ Fresh → v.state.steps < v.length
unfolding begun
begun-going j v e = by (nat_lt v.state.steps v.length) refl _ e
  where
    by : (b : Bool) → nat_lt v.state.steps v.length ≡ b → (w : Walker) → (if b then w else record v { mode = Over }).mode ≡ Fresh
        → v.state.steps < v.length
    by true h w e = ltb-true v.state.steps v.length h
    by false h w e = absurd (rest-fresh Over tt e)

turned-going : (j : Journey) (v : Walker) (m : Mode) → is_ready m ≡ true → HasStepLeft v.state.steps v.length m → (turned j v m).mode ≡ Fresh
    → v.state.steps < v.length
turned-going j v Fresh r h e = begun-going j v e
turned-going j v (Darts left place) r h e = h
turned-going j v (Chosen edge place) r h e = h
turned-going j v (Asked left place q) r h e = absurd (false≢true r)
turned-going j v (AskedRow place q) r h e = absurd (false≢true r)
turned-going j v Over r h e = absurd (false≢true r)

-- a turn that leaves a walker ready leaves it fewer steps
pub advance-left : (g : PartedRun) (v : Walker) → is_ready v.mode ≡ true → HasStepLeft v.state.steps v.length v.mode
    → (advance g v).mode ≡ Fresh
    → (advance g v).length - (advance g v).state.steps < v.length - v.state.steps
advance-left g v r h e =
    let going = turned-going (journey_from g v.number v.start) v v.mode r h e in
    by (advance g v) (advance-outcome g v r) going e
  where
    by : (w : Walker) → Outcome v w → v.state.steps < v.length → w.mode ≡ Fresh → w.length - w.state.steps < v.length - v.state.steps
    by w (makes t c is) going e = rw is (omega arith)
    by w (rests m r is) going e = absurd (rest-fresh m r (sym (ap (λ (u : Walker). u.mode) is) ∙ e))
