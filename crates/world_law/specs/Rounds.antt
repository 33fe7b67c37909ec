-- What a round of a shard does.
use Rattle.std.specs.Prelude.{◌≡◌, ℕ, ◌-◌, ◌==◌, ◌&&◌, Bool, true, false, List, [], ◌∷◌, ◌++◌, map, count_by, All, Option, Some, None}
use Rattle.walk_model.specs.declared.messages.Ask.{Ask}
use Rattle.walk_model.specs.declared.messages.Question.{Question}
use Rattle.walk_model.specs.declared.messages.Question.TheVariants as question
use Rattle.walk_model.specs.declared.results.Print.{Print}
use Rattle.traveller.specs.PartedRuns.{PartedRun}
use Rattle.traveller.specs.Walkers.{is_ready, ask_of}
use Rattle.world_law.specs.Items.{Item, Replies, letter_of}
use Rattle.world_law.specs.Worlds.{Piece, Resident, ShardData, Comes, Goes, shard_pieces}
use Rattle.world_law.specs.Events.{Becomes}

-- two asks are the same
abbrev pub same_question : Question → Question → Bool
same_question (question.Edge t x) (question.Edge u y) = (t == u) && (x == y)
same_question (question.Row t) (question.Row u) = t == u
same_question _ _ = false

abbrev pub same_ask : Ask → Ask → Bool
same_ask a b =
    (a.walker == b.walker) && (a.step == b.step) && (a.home == b.home) && same_question a.question b.question

-- whether an item is a reply to an ask
abbrev pub is_reply_to : Ask → Item → Bool
is_reply_to a (Replies reply from) = same_ask a reply.ask
is_reply_to a _ = false

-- whether a walker waits for the reply to an ask
abbrev pub waits_with : Ask → Option Ask → Bool
waits_with a None = false
waits_with a (Some b) = same_ask a b

-- an item is a reply
abbrev pub is_reply : Item → Bool
is_reply (Replies reply from) = true
is_reply _ = false

-- a round of a shard: what it had and what arrived became what it keeps and what it gives out, by events of
-- its part. Then no resident can go on by itself; only replies are set aside, and of the replies to an ask
-- as many as more came and stood there than walkers had waited for one when the round began; and the prints
-- that it had are the first of those that it has
pub record IsRound (g : PartedRun) (before : ShardData) (arrivals : List Item) (after : ShardData) (out : List Item) : Type 0 where
  pub part : after.part ≡ before.part
  pub becomes : Becomes g before.part (shard_pieces before ++ map Comes arrivals) (shard_pieces after ++ map Goes out)
  pub unready : All (λ v. is_ready v.mode ≡ false) after.residents
  pub replies : All (λ i. is_reply i ≡ true) after.aside
  pub heard : (a : Ask) → count_by (is_reply_to a) after.aside
      ≡ count_by (is_reply_to a) (before.aside ++ arrivals) - count_by (λ v. waits_with a (ask_of g.owner v)) before.residents
  pub prints : (more : List Print) × (after.prints ≡ before.prints ++ more)

-- a round that was made: the shard before, what arrived, the shard after, and what it gave out
pub record Rounded (g : PartedRun) : Type 0 where
  pub before : ShardData
  pub arrivals : List Item
  pub after : ShardData
  pub out : List Item
  pub round : IsRound g before arrivals after out

-- the pieces of several rounds, before and after
abbrev pub rounds_before : {g : PartedRun} → List (Rounded g) → List Piece
rounds_before [] = []
rounds_before (r ∷ rs) = (shard_pieces r.before ++ map Comes r.arrivals) ++ rounds_before rs

abbrev pub rounds_after : {g : PartedRun} → List (Rounded g) → List Piece
rounds_after [] = []
rounds_after (r ∷ rs) = (shard_pieces r.after ++ map Goes r.out) ++ rounds_after rs

-- all items go to a part, and no walker of other pieces resides there
abbrev pub GoTo : ℕ → List Item → Type 0
GoTo k [] = Unit {0}
GoTo k (i ∷ is) = ((letter_of i).to ≡ k) × GoTo k is

abbrev pub Elsewhere : ℕ → Piece → Type 0
Elsewhere k (Resident part v) = part ≡ k → ⊥
Elsewhere k _ = Unit {0}

abbrev pub ResideElsewhere : ℕ → List Piece → Type 0
ResideElsewhere k [] = Unit {0}
ResideElsewhere k (p ∷ ps) = Elsewhere k p × ResideElsewhere k ps
