-- What a part takes in.
use Rattle.std.specs.Prelude.{◌≡◌, ℕ, ◌≤◌, List, length}
use Rattle.traveller.specs.declared.modes.Mode.TheVariants.{Fresh}
use Rattle.traveller.specs.Replies.{Answers}
use Rattle.traveller.specs.Standing.{IsWithin}
use Rattle.traveller.specs.Walkers.{asked_vertex}
use Rattle.query_batch.specs.Numbers.{IsWithin as IsAskedWithin}
use Rattle.vertex_partition.specs.PartViews.{PartView, Owns}
use Rattle.world_law.specs.Items.{Item, Travels, Asks, Replies, letter_of}

-- what a part wants of an item that comes to it, over so many vertices: a walker is at the beginning of a step, at a
-- vertex of the part; an ask is about a vertex of the part; a reply is to an ask from the part, and has the form of
-- its question
abbrev pub Suited : ℕ → PartView → Item → Type 0
Suited vertices p (Travels v from to) = IsWithin vertices v × (v.mode ≡ Fresh) × Owns p v.state.at
Suited vertices p (Asks ask to) = IsAskedWithin vertices ask.question × Owns p (asked_vertex ask.question)
Suited vertices p (Replies reply from) =
    IsAskedWithin vertices reply.ask.question × (reply.ask.home ≡ p.part) × Answers reply.ask.question reply.found

-- a part takes an item in: its letter goes to the part and comes from one of the parts, and the item suits the part.
-- An ask comes from its home, and a reply goes to its home, so both are parts
pub record Takes (vertices : ℕ) (p : PartView) (i : Item) : Type 0 where
  pub to : (letter_of i).to ≡ p.part
  pub from : (letter_of i).from ≤ length p.cuts
  pub suited : Suited vertices p i

-- an item goes to one of the parts between some cuts, which takes it in
pub record FitsAmong (vertices : ℕ) (cuts : List ℕ) (i : Item) : Type 0 where
  pub to : (letter_of i).to ≤ length cuts
  pub taken : (p : PartView) → p.vertices ≡ vertices → p.cuts ≡ cuts → p.part ≡ (letter_of i).to → Takes vertices p i
