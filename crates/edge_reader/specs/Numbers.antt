-- Numbers whose digits are still being read.
use Rattle.std.specs.Prelude.{ℕ, min, nat_le, Bool, true, false, if◌then◌else◌, Result, Ok, Err}
use Rattle.walk_model.specs.declared.faults.Why.{Why}
use Rattle.walk_model.specs.declared.faults.Why.TheVariants.{Number, TooGreat}

-- a number, or a value above every number that is allowed
abbrev pub capped : ℕ → ℕ
capped n = min n 4294967296

-- the number of a field that is all digits or not and has this value, or why there is none
abbrev pub judged : ℕ → Bool → ℕ → Result ℕ Why
judged most false value = Err Number
judged most true value = if nat_le value most then Ok value else Err TooGreat
