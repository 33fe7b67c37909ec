-- Why there is no text of a file.
use Rattle.std.specs.Prelude.{ℕ, ◌<◌, length}
use Rattle.walk_io.specs.Causes.{Rose}
use Rattle.walk_io.specs.Files.{Told, IfRead}
use Rattle.walk_top.specs.declared.texts.TextFault.{TextFault}
use Rattle.walk_top.specs.declared.texts.TextFault.TheVariants.{Read, TooLong, Memory}

-- a file can't be read, or it has more bytes than it may, or there was no memory
abbrev pub IsTextFault : ℕ → Told → ℕ → ℕ → TextFault → Type 0
IsTextFault most told before now Read = Rose before now
IsTextFault most told before now TooLong = IfRead told (λ all. most < length all)
IsTextFault most told before now Memory = Unit {0}
