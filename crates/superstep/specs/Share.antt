-- Which of several things each of some workers gets.
use Rattle.std.specs.Prelude.{ℕ, suc, ◌%◌, nat_eq, if◌then◌else◌, List, [], ◌∷◌}

-- the things whose number leaves the rest `worker` by `workers`, the first of the list having the number `from`
abbrev pub share : {A : Type 0} → ℕ → ℕ → ℕ → List A → List A
share worker workers from [] = []
share worker workers from (x ∷ xs) =
    if nat_eq (from % workers) worker then x ∷ share worker workers (suc from) xs
    else share worker workers (suc from) xs
