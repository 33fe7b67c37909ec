-- The text of walks in pieces.
use Rattle.std.proofs.Common.{◌≡◌, ℕ, ◌<◌, List, [], ◌∷◌, ◌++◌, length, map, ◌+◌, get_or, take, drop, append_assoc, Some, refl, ap, sym, ◌∙◌, arith}
use Rattle.std.proofs.lemmas.List.{append-nil, map-append, take-append-drop}
use Rattle.std.proofs.lemmas.List.Folds.{concat-append}
use Rattle.path_writer.proofs.GainLemmas.{take-more}
use Rattle.std.proofs.lemmas.Grind.{common_steps}
use Rattle.std.proofs.lemmas.Option.{gets}
use Rattle.std.specs.List.{concat}
use Rattle.std.specs.Prelude.{slice_get, slice_index, decimal}
use Rattle.walk_model.specs.Text.{text, line}
use Rattle.path_writer.specs.Named.{spaced, later, named, entries}

-- the first entry of a walk, and each later one after a space
pub entries-first : (names : List ℕ) (x : ℕ) (xs : List ℕ) → entries names (x ∷ xs) ≡ decimal (slice_index names x) ++ later names xs
entries-first names x [] = sym (append-nil (decimal (slice_index names x)))
entries-first names x (y ∷ ys) = ap (λ l. decimal (slice_index names x) ++ (32 ∷ l)) (entries-first names y ys)

-- the same at a list that isn't empty
pub entries-at : (names xs : List ℕ) (d : ℕ) → 0 < length xs
    → entries names xs ≡ decimal (slice_index names (get_or xs 0 d)) ++ later names (drop 1 xs)
entries-at names [] d some = absurd (omega arith)
entries-at names (x ∷ xs) d some = entries-first names x xs

-- the ids of some ranks more
pub later-more : (names xs ids before : List ℕ) (done count next : ℕ) → next ≡ done + count
    → ids ≡ map (slice_index names) (take count (drop done xs))
    → before ++ later names (take next xs) ≡ (before ++ later names (take done xs)) ++ concat (map spaced ids)
later-more names xs ids before done count next e is =
    let f : ℕ → ℕ = slice_index names in
    let cut : take next xs ≡ take done xs ++ take count (drop done xs) = sym (take-more done count next xs e) in
    let mapped : map spaced (map f (take next xs)) ≡ map spaced (map f (take done xs)) ++ map spaced ids =
    ap (λ l. map spaced (map f l)) cut ∙ ap (map spaced) (map-append f (take done xs) (take count (drop done xs)))
    ∙ map-append spaced (map f (take done xs)) (map f (take count (drop done xs)))
    ∙ ap (λ l. map spaced (map f (take done xs)) ++ map spaced l) (sym is) in
    ap (λ l. before ++ concat l) mapped
    ∙ ap (λ l. before ++ l) (concat-append (map spaced (map f (take done xs))) (map spaced ids))
    ∙ sym (append_assoc before (later names (take done xs)) (concat (map spaced ids)))

-- all ids are those of some ranks and of the rest
pub later-cut : (names xs before : List ℕ) (done : ℕ) → before ++ later names xs ≡ (before ++ later names (take done xs)) ++ later names (drop done xs)
later-cut names xs before done =
    let f : ℕ → ℕ = slice_index names in
    let mapped : map spaced (map f xs) ≡ map spaced (map f (take done xs)) ++ map spaced (map f (drop done xs)) =
    ap (λ l. map spaced (map f l)) (sym (take-append-drop done xs)) ∙ ap (map spaced) (map-append f (take done xs) (drop done xs))
    ∙ map-append spaced (map f (take done xs)) (map f (drop done xs)) in
    ap (λ l. before ++ concat l) mapped
    ∙ ap (λ l. before ++ l) (concat-append (map spaced (map f (take done xs))) (map spaced (map f (drop done xs))))
    ∙ sym (append_assoc before (later names (take done xs)) (later names (drop done xs)))

-- the line of a walk by ids
abbrev pub line_by : List ℕ → List ℕ → List ℕ
line_by names walk = line (map (slice_index names) walk)

pub line-entries : (names walk : List ℕ) → line_by names walk ≡ entries names walk ++ 10 ∷ []
unfolding line
line-entries names walk = refl

-- the text of walks is the line of each
pub text-lines : (names : List ℕ) (walks : List (List ℕ)) → text (named names walks) ≡ concat (map (line_by names) walks)
unfolding text
text-lines names [] = refl
text-lines names (w ∷ ws) = ap (λ l. line_by names w ++ l) (text-lines names ws)

-- what is at a place is there whatever stands for nothing
pub at-place : (walks : List (List ℕ)) (i : ℕ) (w d : List ℕ) → slice_get walks i ≡ Some w → get_or walks i d ≡ w
at-place walks i w d at = grind (arith, common_steps, gets)
