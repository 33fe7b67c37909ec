-- What was carried between parts.
use Rattle.std.specs.Prelude.{◌≡◌, ℕ, ◌<◌, ◌==◌, List, ◌++◌, length, filter, All, Option, Some, None}
use Rattle.walk_model.specs.declared.messages.Letter.{Letter}
use Rattle.walk_model.specs.Counts.{sum_below}

-- the letters of one walker among some
abbrev pub of_one : ℕ → List Letter → List Letter
of_one i letters = filter (λ l. l.walker == i) letters

-- a log grew by letters of so many walkers alone, those of each walker being given ones, in their order
pub record GrewBy (walkers : ℕ) (wanted : ℕ → List Letter) (before after : List Letter) : Type 0 where
  pub more : List Letter
  pub grew : after ≡ before ++ more
  pub each : (i : ℕ) → i < walkers → of_one i more ≡ wanted i
  pub alone : All (λ l. l.walker < walkers) more

-- the same of a log that may not be told
abbrev pub IsLogged : ℕ → (ℕ → List Letter) → Option (List Letter) → Option (List Letter) → Type 0
IsLogged walkers wanted None after = after ≡ None
IsLogged walkers wanted (Some before) None = ⊥
IsLogged walkers wanted (Some before) (Some after) = GrewBy walkers wanted before after

-- how many letters so many walkers have together
abbrev pub count_letters : ℕ → (ℕ → List Letter) → ℕ
count_letters walkers wanted = sum_below walkers (λ i. length (wanted i))
