-- What the fields of a shard keep.
use Rattle.std.specs.Prelude.{◌≡◌, List, ◌++◌, map, true, All, Some}
use Rattle.walk_model.specs.declared.messages.Question.{Question}
use Rattle.traveller.specs.declared.runs.Run.{Run}
use Rattle.traveller.specs.Replies.{Answers}
use Rattle.traveller.specs.Standing.{StandsIn, Suits}
use Rattle.traveller.specs.Walkers.{Walker, is_over, question_of}
use Rattle.vertex_partition.specs.PartViews.{PartView}
use Rattle.world_law.specs.Items.{Item, Replies}
use Rattle.shard_core.specs.declared.shards.Shard.TheInside.{Inside}
use Rattle.shard_core.specs.declared.shards.Told.{Told}
pub use Rattle.shard_core.specs.Abreast.{IsReadyIn}
use Rattle.shard_core.specs.Shards.{ShardView}

-- a reply that was set aside, as an item
abbrev pub told_item : Told → Item
told_item told = Replies told.reply told.from

-- a shard's walkers: those that can go on by themselves, those that wait, and those that have ended
abbrev pub shard_view : Inside → ShardView
shard_view s = record {
  run = s.run;
  part = s.part;
  residents = s.ready.items ++ (s.waiting.items ++ s.ended.items);
  aside = map told_item s.aside.items;
  prints = s.prints.prints;
  whole = s.whole;
}

-- a walker stands in the run and the part and waits; or its walk has ended
pub record WaitsIn (run : Run) (p : PartView) (w : Walker) : Type 0 where
  pub stands : StandsIn run p w
  pub question : Question
  pub waits : question_of w.mode ≡ Some question

pub record HasEndedIn (run : Run) (p : PartView) (w : Walker) : Type 0 where
  pub stands : StandsIn run p w
  pub over : is_over w.mode ≡ true

-- a reply has the form of its question
abbrev pub HasForm : Told → Type 0
HasForm told = Answers told.reply.ask.question told.reply.found

-- the run suits the part, each walker stands in them, where its mode lets it go on, wait or rest, and the replies
-- that were set aside have the form of their questions
pub record IsShard (s : Inside) : Type 0 where
  pub suits : Suits s.run s.part
  pub ready : All (IsReadyIn s.run s.part) s.ready.items
  pub waiting : All (WaitsIn s.run s.part) s.waiting.items
  pub ended : All (HasEndedIn s.run s.part) s.ended.items
  pub aside : All HasForm s.aside.items
