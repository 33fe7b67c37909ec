-- What the fields of `Prints` keep.
use Rattle.std.specs.Prelude.{◌≡◌, ◌≤◌, ◌+◌, ◌-◌, ◌++◌, length, vec_len, vec_capacity}
use Rattle.shard_core.specs.declared.prints.TheConstants.{PIECE, MOST}
use Rattle.shard_core.specs.declared.prints.Prints.TheInside.{Inside}
use Rattle.shard_core.specs.Pieces.{PrintList, all_of}

-- the prints of the closed pieces and of the last one, and the room that the last one has left
abbrev pub print_list : Inside → PrintList
print_list p = record {
  prints = all_of p.full.items ++ p.last.items;
  room = vec_capacity p.last - vec_len p.last;
}

-- how many prints the closed pieces have is known, the last piece is no greater than a piece, and all
-- stay within the bound
pub record IsKept (p : Inside) : Type 0 where
  pub before : p.before ≡ length (all_of p.full.items)
  pub piece : vec_capacity p.last ≤ PIECE
  pub within : p.before + vec_capacity p.last ≤ MOST
