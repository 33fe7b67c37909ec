-- What goes from one part to another, and its letter.
use Rattle.std.specs.Prelude.{ℕ}
use Rattle.walk_model.specs.declared.messages.Ask.{Ask}
use Rattle.walk_model.specs.declared.messages.Reply.{Reply}
use Rattle.walk_model.specs.declared.messages.Letter.{Letter}
use Rattle.walk_model.specs.declared.messages.What.{What}
use Rattle.walk_model.specs.declared.messages.What.TheVariants.{Move, AskEdge, ReplyEdge, AskRow, ReplyRow}
use Rattle.walk_model.specs.declared.messages.Question.{Question}
use Rattle.walk_model.specs.declared.messages.Question.TheVariants as question
use Rattle.walk_model.specs.declared.messages.Found.{Found}
use Rattle.walk_model.specs.declared.messages.Found.TheVariants as found
use Rattle.traveller.specs.Walkers.{Walker, asked_vertex}

-- what travels: a walker, from the part that it left to the one that owns its place; an ask, to the part
-- that is asked; a reply, from that part to the ask's home
pub data Item : Type 0 where
  Travels : (v : Walker) (from to : ℕ) → Item
  Asks : (ask : Ask) (to : ℕ) → Item
  Replies : (reply : Reply) (from : ℕ) → Item

-- what a letter says of a question, and of what was found for it
abbrev pub ask_what : Question → What
ask_what (question.Edge t x) = AskEdge t x
ask_what (question.Row t) = AskRow t

abbrev pub reply_what : Question → Found → What
reply_what q (found.Edge near) = ReplyEdge near
reply_what q (found.Row ends) = ReplyRow (asked_vertex q)

-- the letter of an item
abbrev pub letter_of : Item → Letter
letter_of (Travels v from to) =
    record { walker = v.number; step = v.state.steps; from = from; to = to; what = Move }
letter_of (Asks ask to) =
    record { walker = ask.walker; step = ask.step; from = ask.home; to = to; what = ask_what ask.question }
letter_of (Replies reply from) = record {
  walker = reply.ask.walker;
  step = reply.ask.step;
  from = from;
  to = reply.ask.home;
  what = reply_what reply.ask.question reply.found;
}
