-- The events of a part, and lists of them.
use Rattle.std.specs.Prelude.{◌≡◌, ℕ, ◌==◌, if◌then◌else◌, true, List, [], ◌∷◌, ◌++◌, Option, Some, None}
use Rattle.walk_model.specs.declared.messages.Ask.{Ask}
use Rattle.walk_model.specs.declared.messages.Letter.{Letter}
use Rattle.walk_model.specs.declared.messages.Reply.{Reply}
use Rattle.walk_model.specs.declared.messages.Question.{Question}
use Rattle.traveller.specs.declared.modes.Mode.{Mode}
use Rattle.traveller.specs.declared.modes.Mode.TheVariants.{Fresh, Asked, AskedRow}
use Rattle.traveller.specs.Ahead.{print_of}
use Rattle.traveller.specs.PartedRuns.{PartedRun}
use Rattle.traveller.specs.Walkers.{Walker, is_ready, asked_vertex, ask_with, ask_of}
use Rattle.traveller.specs.Turns.{advance}
use Rattle.traveller.specs.Replies.{reply_to, Answers, hear}
use Rattle.world_law.specs.Items.{Item, Travels, Asks, Replies, letter_of}
use Rattle.world_law.specs.Worlds.{Piece, Resident, Aside, Printed, Comes, Goes, Same}

-- what happens in a part: an item that comes is taken in and set aside; a ready walker makes a turn; a
-- walker that was set aside becomes a resident; an ask that was set aside is answered; and a walker that
-- waits hears its reply
pub data Event : Type 0 where
  Arrives : (i : Item) → Event
  Turns : (v : Walker) → Event
  Enters : (v : Walker) (from to : ℕ) → Event
  Answered : (ask : Ask) (to : ℕ) → Event
  Hears : (v : Walker) (reply : Reply) (from : ℕ) → Event

-- when it may happen in a part
abbrev pub May : PartedRun → ℕ → Event → Type 0
May g k (Arrives i) = (letter_of i).to ≡ k
May g k (Turns v) = (is_ready v.mode ≡ true) × (g.owner v.state.at ≡ k)
May g k (Enters v from to) = v.mode ≡ Fresh
May g k (Answered ask to) = g.owner (asked_vertex ask.question) ≡ k
May g k (Hears v reply from) =
    (g.owner v.state.at ≡ k) × (ask_of g.owner v ≡ Some reply.ask) × Answers reply.ask.question reply.found

-- what it takes from the pieces
abbrev pub taken_by : ℕ → Event → List Piece
taken_by k (Arrives i) = Comes i ∷ []
taken_by k (Turns v) = Resident k v ∷ []
taken_by k (Enters v from to) = Aside k (Travels v from to) ∷ []
taken_by k (Answered ask to) = Aside k (Asks ask to) ∷ []
taken_by k (Hears v reply from) = Resident k v ∷ Aside k (Replies reply from) ∷ []

-- a walker that has made a step stays with the part that owns its place, or goes there
abbrev pub stays_or_goes : PartedRun → ℕ → Walker → Piece
stays_or_goes g k w =
    if k == g.owner w.state.at then Resident k w else Goes (Travels w k (g.owner w.state.at))

-- a walker that asks, and its ask
abbrev pub asks_now : PartedRun → ℕ → Walker → Question → List Piece
asks_now g k w q =
    Resident k w ∷ Goes (Asks (ask_with g.owner w q) (g.owner (asked_vertex q))) ∷ []

-- what a turn leaves: a print and the walker, the walker and its ask, or the walker at its end
abbrev pub turn_pieces : PartedRun → ℕ → Walker → Mode → List Piece
turn_pieces g k w Fresh = Printed k (print_of w) ∷ stays_or_goes g k w ∷ []
turn_pieces g k w (Asked left place q) = asks_now g k w q
turn_pieces g k w (AskedRow place q) = asks_now g k w q
turn_pieces g k w _ = Resident k w ∷ []

abbrev pub turn_gives : PartedRun → ℕ → Walker → List Piece
turn_gives g k w = turn_pieces g k w w.mode

-- what it gives in place of that
abbrev pub given_by : PartedRun → ℕ → Event → List Piece
given_by g k (Arrives i) = Aside k i ∷ []
given_by g k (Turns v) = turn_gives g k (advance g v)
given_by g k (Enters v from to) = Resident k v ∷ []
given_by g k (Answered ask to) = Goes (Replies (reply_to g.edges ask) k) ∷ []
given_by g k (Hears v reply from) = Resident k (hear g v reply.found) ∷ []

-- the letter that it takes in, if it takes one in
abbrev pub letter_in : Event → Option Letter
letter_in (Enters v from to) = Some (letter_of (Travels v from to))
letter_in (Answered ask to) = Some (letter_of (Asks ask to))
letter_in (Hears v reply from) = Some (letter_of (Replies reply from))
letter_in _ = None

-- events of a part, one after another, lead from some pieces to others: each takes its pieces from those
-- that are there, and leaves all others as they are
unfoldable pub Leads : PartedRun → ℕ → List Event → List Piece → List Piece → Type 0
Leads g k [] before after = Same before after
Leads g k (e ∷ es) before after = (others : List Piece)
    × May g k e × Same before (taken_by k e ++ others) × Leads g k es (given_by g k e ++ others) after

-- some pieces become others by events of a part
pub record Becomes (g : PartedRun) (k : ℕ) (before after : List Piece) : Type 0 where
  pub events : List Event
  pub leads : Leads g k events before after
