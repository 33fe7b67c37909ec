-- Why walks weren't all written.
use Rattle.std.specs.Prelude.{ℕ, Result, Ok, Err}
use Rattle.walk_io.specs.Causes.{Rose}
use Rattle.walk_top.specs.declared.walking.WriteFault.{WriteFault}
use Rattle.walk_top.specs.declared.walking.WriteFault.TheVariants as write

-- a write failed, or there was no memory
abbrev pub IsWriteFault : ℕ → ℕ → WriteFault → Type 0
IsWriteFault before now write.Failed = Rose before now
IsWriteFault before now write.Memory = Unit {0}

-- a fact that holds once the walks are taken, whether or not a write failed then
abbrev pub OnceWalked : {X : Type 0} → Result X WriteFault → Type 0 → Type 0
OnceWalked (Ok x) P = P
OnceWalked (Err write.Failed) P = P
OnceWalked (Err write.Memory) P = Unit {0}
