-- When a world is sound.
use Rattle.std.specs.Prelude.{◌≡◌, ℕ, suc, ◌==◌, false, List, sum_by, Option, Some, None, slice_get}
use Rattle.walk_model.specs.declared.messages.Ask.{Ask}
use Rattle.walk_model.specs.declared.states.State.{State}
use Rattle.walk_model.specs.Counts.{sum_below}
use Rattle.walk_model.specs.Walk.{next_state}
use Rattle.traveller.specs.declared.modes.Mode.TheVariants.{Fresh}
use Rattle.traveller.specs.PartedRuns.{PartedRun, journey_from, walk_in, state_after}
use Rattle.traveller.specs.Walkers.{Walker, asked_vertex, ask_of}
use Rattle.traveller.specs.Replies.{found_in}
use Rattle.world_law.specs.Items.{Item, Travels, Asks, Replies, letter_of}
use Rattle.world_law.specs.Truth.{IsTrueTo}
use Rattle.world_law.specs.Worlds.{Piece, Resident, Aside, Printed, Comes, Goes, Each}

-- the weight of the walker in an item or a piece, if one is there
abbrev pub item_walker : (Walker → ℕ) → Item → ℕ
item_walker f (Travels v from to) = f v
item_walker f _ = 0

abbrev pub of_walker : (Walker → ℕ) → Piece → ℕ
of_walker f (Resident k v) = f v
of_walker f (Aside k i) = item_walker f i
of_walker f (Printed k p) = 0
of_walker f (Comes i) = item_walker f i
of_walker f (Goes i) = item_walker f i

-- the weight of the ask that a resident waits for, if it waits
abbrev pub ask_weight : (Ask → ℕ) → Option Ask → ℕ
ask_weight f None = 0
ask_weight f (Some ask) = f ask

abbrev pub of_open : (ℕ → ℕ) → (Ask → ℕ) → Piece → ℕ
of_open owner f (Resident k v) = ask_weight f (ask_of owner v)
of_open owner f _ = 0

-- the weight of the ask that an item or a piece carries, itself or in its reply
abbrev pub item_ask : (Ask → ℕ) → Item → ℕ
item_ask f (Travels v from to) = 0
item_ask f (Asks ask to) = f ask
item_ask f (Replies reply from) = f reply.ask

abbrev pub of_sent : (Ask → ℕ) → Piece → ℕ
of_sent f (Resident k v) = 0
of_sent f (Aside k i) = item_ask f i
of_sent f (Printed k p) = 0
of_sent f (Comes i) = item_ask f i
of_sent f (Goes i) = item_ask f i

-- the weight of a print by its walker and step, and of the steps that a walker has made, the start as
-- step 0
abbrev pub of_print : (ℕ → ℕ → ℕ) → Piece → ℕ
of_print f (Printed k p) = f p.walker p.step
of_print f _ = 0

abbrev pub steps_made : (ℕ → ℕ → ℕ) → Walker → ℕ
steps_made f v = sum_below (suc v.state.steps) (f v.number)

-- a walker's last step led from a vertex of one part to one of another
pub record CameFrom (g : PartedRun) (v : Walker) (from to : ℕ) : Type 0 where
  pub before : State
  pub steps : v.state.steps ≡ suc before.steps
  pub reached : state_after before.steps (journey_from g v.number v.start).course ≡ Some before
  pub step : next_state (journey_from g v.number v.start).course before ≡ Some v.state
  pub left : g.owner before.at ≡ from
  pub comes : g.owner v.state.at ≡ to
  pub other : (from == to) ≡ false

-- a walker on its way: between two steps, true, from the part that its last step left to the owner of
-- its place
pub record IsOnWay (g : PartedRun) (v : Walker) (from to : ℕ) : Type 0 where
  pub fresh : v.mode ≡ Fresh
  pub holds : IsTrueTo g v
  pub came : CameFrom g v from to

-- an item is true: a walker on its way; an ask to the owner of the vertex that it asks about; a reply
-- from there, which says what the graph says
abbrev pub IsTrueItem : PartedRun → Item → Type 0
IsTrueItem g (Travels v from to) = IsOnWay g v from to
IsTrueItem g (Asks ask to) = g.owner (asked_vertex ask.question) ≡ to
IsTrueItem g (Replies reply from) =
    (g.owner (asked_vertex reply.ask.question) ≡ from) × (reply.found ≡ found_in g.edges reply.ask.question)

-- a piece is true: a resident is true and the part owns its place; an item is true and, if it was set
-- aside, in the part that it goes to; a print has the entry of the walk after its step
abbrev pub IsTruePiece : PartedRun → Piece → Type 0
IsTruePiece g (Resident k v) = IsTrueTo g v × (g.owner v.state.at ≡ k)
IsTruePiece g (Aside k i) = IsTrueItem g i × ((letter_of i).to ≡ k)
IsTruePiece g (Printed k p) = slice_get (walk_in g p.walker) p.step ≡ Some p.at
IsTruePiece g (Comes i) = IsTrueItem g i
IsTruePiece g (Goes i) = IsTrueItem g i

-- the pieces of a world are sound: each walker's number stands exactly once and no other number does; for
-- each ask as many residents wait as there are asks and replies; each step that a walker has made has
-- exactly one print, and no other step has one; and every piece is true. All is said by weights: whatever
-- numbers, asks or steps are worth, the sums agree
pub record IsSound (g : PartedRun) (ps : List Piece) : Type 0 where
  pub numbers : (f : ℕ → ℕ) → sum_by (of_walker (λ v. f v.number)) ps ≡ sum_below g.walkers f
  pub asks : (f : Ask → ℕ) → sum_by (of_open g.owner f) ps ≡ sum_by (of_sent f) ps
  pub prints : (f : ℕ → ℕ → ℕ) → sum_by (of_print f) ps ≡ sum_by (of_walker (steps_made f)) ps
  pub pieces : Each (IsTruePiece g) ps
