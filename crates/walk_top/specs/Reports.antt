-- The report on a run among parts.
use Rattle.std.specs.Prelude.{ℕ, ◌-◌, Bool, true, false, List, [], ◌∷◌, length, count_by, codes, decimal}
use Rattle.std.specs.List.{concat}
use Rattle.walk_model.specs.declared.messages.Letter.{Letter}
use Rattle.walk_model.specs.declared.messages.What.{What}
use Rattle.walk_model.specs.declared.messages.What.TheVariants.{Move, AskEdge, ReplyEdge, AskRow, ReplyRow}
use Rattle.walk_model.specs.Counts.{sum_below}
use Rattle.traveller.specs.PartedRuns.{PartedRun, letters_in, walk_in}

-- what a letter says is that a walker moves to another part
abbrev pub is_move : What → Bool
is_move Move = true
is_move (AskEdge t x) = false
is_move (ReplyEdge near) = false
is_move (AskRow t) = false
is_move (ReplyRow t) = false

-- what a letter says is a question
abbrev pub is_ask : What → Bool
is_ask Move = false
is_ask (AskEdge t x) = true
is_ask (ReplyEdge near) = false
is_ask (AskRow t) = true
is_ask (ReplyRow t) = false

-- how many letters say such a thing
abbrev pub count_saying : (What → Bool) → List Letter → ℕ
count_saying says letters = count_by (λ l. says l.what) letters

-- how many steps all walks of a run have: each walk has one more entry than it has steps
abbrev pub all_steps : PartedRun → ℕ
all_steps run = sum_below run.walkers (λ walker. length (walk_in run walker) - 1)

-- how many letters of all walks of a run say such a thing
abbrev pub all_saying : (What → Bool) → PartedRun → ℕ
all_saying says run = sum_below run.walkers (λ walker. count_saying says (letters_in run walker))

-- four lines of a word and a number
unfoldable pub report : (walks steps moves asks : ℕ) → List ℕ
report walks steps moves asks =
    concat (codes "walks " ∷ decimal walks ∷ codes "\n"
    ∷ codes "steps " ∷ decimal steps ∷ codes "\n"
    ∷ codes "moves " ∷ decimal moves ∷ codes "\n"
    ∷ codes "asks " ∷ decimal asks ∷ codes "\n" ∷ [])

-- the report on a run: its walks, their steps, and the moves and asks among their letters
abbrev pub report_on : PartedRun → List ℕ
report_on run = report run.walkers (all_steps run) (all_saying is_move run) (all_saying is_ask run)
