-- Answers that may be a fault.
use Rattle.std.specs.Prelude.{◌≡◌, Result, Ok, Err}
use Rattle.walk_model.specs.declared.faults.PlanFault.{PlanFault}
use Rattle.walk_model.specs.declared.faults.PlanFault.TheVariants.{Text, UnknownKey, Missing, BadValue, Clash, Memory}

-- goes on with a value, unless there is a fault
abbrev pub and_then : {X Y : Type 0} → Result X PlanFault → (X → Result Y PlanFault) → Result Y PlanFault
and_then (Err fault) go = Err fault
and_then (Ok x) go = go x

-- the fault is that of the answer, unless there was no memory
abbrev pub IsFault : {X : Type 0} → PlanFault → Result X PlanFault → Type 0
IsFault Memory answer = Unit {0}
IsFault Text answer = answer ≡ Err Text
IsFault (UnknownKey key) answer = answer ≡ Err (UnknownKey key)
IsFault (Missing key) answer = answer ≡ Err (Missing key)
IsFault (BadValue key) answer = answer ≡ Err (BadValue key)
IsFault (Clash key) answer = answer ≡ Err (Clash key)
