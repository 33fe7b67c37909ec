-- What the state within a line stands for: what the line comes to, for each way in which it may go on.
use Rattle.std.specs.Prelude.{ℕ, nat_le, ◌==◌, ◌&&◌, Bool, true, false, if◌then◌else◌, List, [], ◌∷◌, Option, None, Result, Ok, Err}
use Rattle.std.specs.Str.{all_ascii_digits}
use Rattle.walk_model.specs.declared.graph.Edge.{Edge}
use Rattle.walk_model.specs.declared.faults.Why.{Why}
use Rattle.walk_model.specs.declared.faults.Why.TheVariants.{Fields}
use Rattle.walk_model.specs.Digits.{continued}
use Rattle.edge_reader.specs.declared.numbers.Digits.{Digits}
use Rattle.edge_reader.specs.declared.gathered.Gathered.{Gathered}
use Rattle.edge_reader.specs.declared.unfinished.Place.{Place}
use Rattle.edge_reader.specs.declared.unfinished.Place.TheVariants.{Gap, Field, Comment}
use Rattle.edge_reader.specs.declared.unfinished.Line.{Line}
use Rattle.edge_reader.specs.Lines.{is_blank, is_comment, fields, without_return}
use Rattle.edge_reader.specs.GraphFile.{edge_of, not_zero}
use Rattle.edge_reader.specs.Numbers.{capped, judged}

-- the fields so far and one more, which is all digits or not and has this value
abbrev pub with_field : Gathered → Bool → ℕ → Gathered
with_field g digits value =
    if g.count == 0 then record g { count = 1; src = judged 4294967295 digits value }
    else (if g.count == 1 then record g { count = 2; dst = judged 4294967295 digits value }
    else (if g.count == 2 then record g { count = 3; weight = not_zero (judged 4294967295 digits value) }
    else (if g.count == 3 then record g { count = 4; kind = judged 255 digits value }
    else record g { count = 5 })))

-- what a line with just the fields so far comes to
abbrev pub outcome : Gathered → Result (Option Edge) Why
outcome g =
    if g.count == 0 then Ok None
    else (if nat_le 2 g.count && nat_le g.count 4 then edge_of g.src g.dst g.weight g.kind else Err Fields)

-- what a line with the fields so far and these comes to
unfoldable pub with_fields : Gathered → List (List ℕ) → Result (Option Edge) Why
with_fields g [] = outcome g
with_fields g (f ∷ fs) = with_fields (with_field g (all_ascii_digits f) (capped (continued 0 f))) fs

-- the bytes in front of the first blank
unfoldable pub stretch : List ℕ → List ℕ
stretch [] = []
stretch (b ∷ bs) = if is_blank b then [] else b ∷ stretch bs

-- the bytes from the first blank on
unfoldable pub beyond : List ℕ → List ℕ
beyond [] = []
beyond (b ∷ bs) = if is_blank b then b ∷ bs else beyond bs

-- what a line comes to that goes on with these bytes, by the place within it
unfoldable pub from_place : Place → Gathered → Digits → List ℕ → Result (Option Edge) Why
from_place Comment g n rest = Ok None
from_place Gap g n rest =
    if g.count == 0 && is_comment rest then Ok None else with_fields g (fields rest)
from_place Field g n rest =
    with_fields (with_field g (n.is_number && all_ascii_digits (stretch rest)) (capped (continued n.value (stretch rest)))) (fields (beyond rest))

-- a carriage return that was kept back, in front of the bytes that follow
abbrev pub kept_back : Bool → List ℕ → List ℕ
kept_back true rest = 13 ∷ rest
kept_back false rest = rest

-- what a line comes to that goes on with these bytes
unfoldable pub line_with : Line → List ℕ → Result (Option Edge) Why
line_with line rest = from_place line.place line.fields line.digits (without_return (kept_back line.returned rest))
