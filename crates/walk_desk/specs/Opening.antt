-- What a contract sees of the rings of a desk before it is opened.
use Rattle.std.specs.Prelude.{ℕ, List, map}
use Rattle.walk_desk.specs.Rings.{Line}
use Rattle.walk_desk.specs.Lines.{line_of}
use Rattle.walk_desk.specs.declared.opening.DeskRings.{DeskRings}

-- the two rings of each client, by place
abbrev pub lines_of : DeskRings → List Line
lines_of r = map line_of r.ends.items

-- how many items each ring has room for
abbrev pub capacity_of : DeskRings → ℕ
capacity_of r = r.capacity
