-- The line of a walk in pieces.
use Rattle.std.specs.Prelude.{ℕ, List, map, decimal}
use Rattle.std.specs.List.{join_with_byte}

-- the ids of a walk with one space between
abbrev pub entries : List ℕ → List ℕ
entries ids = join_with_byte 32 (map decimal ids)
