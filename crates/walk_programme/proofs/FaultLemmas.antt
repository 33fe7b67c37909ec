-- Faults that are handed on.
use Rattle.std.proofs.Common.{◌≡◌, Result, Ok, Err, refl}
use Rattle.std.specs.Result.{IfErr, IsErrAnd}
use Rattle.walk_model.specs.declared.faults.PlanFault.{PlanFault}
use Rattle.walk_model.specs.declared.faults.PlanFault.TheVariants.{Text, UnknownKey, Missing, BadValue, Clash, Memory}
use Rattle.walk_programme.specs.Faults.{and_then, IsFault}

-- the fault of an answer is its fault
pub fault-err : {X : Type 0} (f : PlanFault) (answer : Result X PlanFault) → answer ≡ Err f → IsFault f answer
fault-err Memory answer h = tt
fault-err Text answer h = h
fault-err (UnknownKey key) answer h = h
fault-err (Missing key) answer h = h
fault-err (BadValue key) answer h = h
fault-err (Clash key) answer h = h

-- a fault stays one, whatever would come later
pub fault-then : {X Y : Type 0} (f : PlanFault) (answer : Result X PlanFault) (go : X → Result Y PlanFault) → IsFault f answer → IsFault f (and_then answer go)
fault-then Memory answer go h = tt
fault-then Text answer go h = rw h refl
fault-then (UnknownKey key) answer go h = rw h refl
fault-then (Missing key) answer go h = rw h refl
fault-then (BadValue key) answer go h = rw h refl
fault-then (Clash key) answer go h = rw h refl

-- a fault that is handed on as it is
pub fault-exit : {X Y : Type 0} (r : Result X PlanFault) (e : PlanFault) (answer : Result Y PlanFault) → IsErrAnd r (λ f. f ≡ e) → IsFault e answer → IfErr r (λ f. IsFault f answer)
fault-exit (Ok x) e answer h found = tt
fault-exit (Err f) e answer h found = rw h found
