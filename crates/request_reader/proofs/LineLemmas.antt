-- Lines and fields by their places.
use Rattle.std.proofs.Common.{◌≡◌, ◌≢◌, ◌==◌, ℕ, zero, suc, ◌+◌, ◌-◌, ◌<◌, ◌≤◌, true, false, List, [], ◌∷◌, ◌++◌, length, take, drop, get_or, refl, ap, sym, ◌∙◌, arith, append_assoc, length-drop}
use Rattle.std.specs.Prelude.{slice_range}
use Rattle.std.specs.List.{flat_map}
use Rattle.std.proofs.lemmas.List.{append-nil, get_or-drop, drop-drop}
use Rattle.request_reader.specs.Requests.{line_requests, requests_of}
use Rattle.edge_reader.specs.Lines.{lines_of, in_first, is_blank, fields, without_return}
use Rattle.edge_reader.specs.Unfinished.{stretch, beyond}
use Rattle.edge_reader.proofs.FieldLemmas.{without_return-none, without_return-last, without_return-more, without_return-plain, fields-none, fields-blank, stretch-blank, stretch-more, beyond-blank, beyond-more, fields-first}
use Rattle.edge_reader.proofs.TextLemmas.{drop-next, drop-end}

-- the lines after the first line feed, if there is one
abbrev lines_behind : List ℕ → List (List ℕ)
lines_behind [] = []
lines_behind (b ∷ bs) = lines_of bs

-- a text is its first line, and the lines behind the first line feed
lines-cut : (n : ℕ) (xs : List ℕ) → n ≤ length xs → (n < length xs → get_or xs n 0 ≡ 10) → ((k : ℕ) → k < n → get_or xs k 0 ≢ 10)
    → lines_of xs ≡ take n xs ∷ lines_behind (drop n xs)
unfolding lines_of
lines-cut zero [] low feed before = refl
lines-cut zero (x ∷ xs) low feed before = let at : x ≡ 10 = feed (omega arith) in rw at refl
lines-cut (suc n) [] low feed before = absurd (omega arith)
lines-cut (suc n) (x ∷ xs) low feed before =
    let other : x ≢ 10 = before 0 (omega arith) in
    let not : (x == 10) ≡ false = grind arith in
    let rest : lines_of xs ≡ take n xs ∷ lines_behind (drop n xs) =
    lines-cut n xs (omega arith) (λ more. feed (omega arith)) (λ k less. before (suc k) (omega arith)) in
    rw not (ap (in_first x) rest)

-- an empty line has no requests
empty-line : line_requests [] ≡ []
unfolding without_return fields
empty-line = refl

behind-requests : (xs : List ℕ) → flat_map line_requests (lines_behind xs) ≡ requests_of (drop 1 xs)
unfolding requests_of lines_of
behind-requests [] = sym (ap (λ l. l ++ []) empty-line)
behind-requests (x ∷ xs) = refl

first-requests : (n : ℕ) (xs : List ℕ) → n ≤ length xs → (n < length xs → get_or xs n 0 ≡ 10) → ((k : ℕ) → k < n → get_or xs k 0 ≢ 10)
    → requests_of xs ≡ line_requests (take n xs) ++ requests_of (drop 1 (drop n xs))
unfolding requests_of
first-requests n xs low feed before =
    ap (flat_map line_requests) (lines-cut n xs low feed before) ∙ ap (λ l. line_requests (take n xs) ++ l) (behind-requests (drop n xs))

-- the requests of a text from a place on are those of the line that begins there, and of the text behind it
pub requests-cut : (text : List ℕ) (from end next : ℕ) → next ≡ end + 1 → from ≤ end → end ≤ length text
    → (end < length text → get_or text end 0 ≡ 10) → ((k : ℕ) → from ≤ k → k < end → get_or text k 0 ≢ 10)
    → requests_of (drop from text) ≡ line_requests (slice_range text from end) ++ requests_of (drop next text)
requests-cut text from end next is low within feed before =
    let long : length (drop from text) ≡ length text - from = length-drop from text in
    let there : from + (end - from) ≡ end = omega arith in
    first-requests (end - from) (drop from text) (omega arith)
    (λ more. get_or-drop from text (end - from) 0 ∙ ap (λ n. get_or text n 0) there ∙ feed (omega arith))
    (λ k less at. before (from + k) (omega arith) (omega arith) (sym (get_or-drop from text k 0) ∙ at))
    ∙ ap (λ l. line_requests (slice_range text from end) ++ requests_of l)
    (ap (drop 1) (drop-drop (end - from) from text ∙ ap (λ n. drop n text) there) ∙ drop-drop 1 end text ∙ ap (λ n. drop n text) (sym is))

-- nothing is left at the end of a text
pub requests-none : (text : List ℕ) (at : ℕ) → length text ≤ at → requests_of (drop at text) ≡ []
unfolding requests_of lines_of
requests-none text at over = ap requests_of (drop-end at text over) ∙ ap (λ l. l ++ []) empty-line

-- a line without its carriage return
pub trimmed-return : (xs : List ℕ) → 0 < length xs → get_or xs (length xs - 1) 0 ≡ 13 → without_return xs ≡ take (length xs - 1) xs
trimmed-return [] some at = absurd (omega arith)
trimmed-return (x ∷ []) some at = without_return-last x at
trimmed-return (x ∷ y ∷ xs) some at =
    let shorter : suc (suc (length xs)) - 1 ≡ suc (suc (length xs) - 1) = omega arith in
    rw shorter (without_return-more x y xs ∙ ap (λ l. x ∷ l) (trimmed-return (y ∷ xs) (omega arith) (rw shorter at at)))

pub trimmed-plain : (xs : List ℕ) → (0 < length xs → get_or xs (length xs - 1) 0 ≢ 13) → without_return xs ≡ xs
trimmed-plain [] other = without_return-none
trimmed-plain (x ∷ []) other = without_return-plain x [] (other (omega arith)) ∙ ap (λ l. x ∷ l) without_return-none
trimmed-plain (x ∷ y ∷ xs) other =
    let shorter : suc (suc (length xs)) - 1 ≡ suc (suc (length xs) - 1) = omega arith in
    let last : get_or (x ∷ y ∷ xs) (suc (suc (length xs)) - 1) 0 ≢ 13 = other (omega arith) in
    without_return-more x y xs ∙ ap (λ l. x ∷ l) (trimmed-plain (y ∷ xs) (λ more. rw shorter at last))

-- a blank at a place
pub gap-more : (line : List ℕ) (at : ℕ) → at < length line → is_blank (get_or line at 0) ≡ true → fields (drop at line) ≡ fields (drop (at + 1) line)
gap-more line at low blank = ap fields (drop-next at line low) ∙ fields-blank (get_or line at 0) (drop (at + 1) line) blank

-- nothing is left at the end of a line
pub fields-end : (line : List ℕ) (at : ℕ) → length line ≤ at → fields (drop at line) ≡ []
fields-end line at over = ap fields (drop-end at line over) ∙ fields-none

-- a field so far, from a place on, and what it goes on with
pub record IsCut (line : List ℕ) (from at : ℕ) : Type 0 where
  pub field : stretch (drop from line) ≡ slice_range line from at ++ stretch (drop at line)
  pub rest : beyond (drop from line) ≡ beyond (drop at line)

range-none : (line : List ℕ) (from : ℕ) → slice_range line from from ≡ []
range-none line from = let none : from - from ≡ 0 = omega arith in rw none refl

pub cut-none : (line : List ℕ) (from : ℕ) → IsCut line from from
cut-none line from = record { field = ap (λ l. l ++ stretch (drop from line)) (sym (range-none line from)); rest = refl }

range-more : (line : List ℕ) (from at : ℕ) → from ≤ at → at < length line → slice_range line from (at + 1) ≡ slice_range line from at ++ get_or line at 0 ∷ []
range-more line zero at low within = take-next at line within
  where
    take-next : (n : ℕ) (xs : List ℕ) → n < length xs → take (n + 1 - 0) (drop 0 xs) ≡ take (n - 0) (drop 0 xs) ++ get_or xs n 0 ∷ []
    take-next n xs less = let a : n + 1 - 0 ≡ suc n = omega arith in let b : n - 0 ≡ n = omega arith in rw (a, b) (next n xs less)
      where
        next : (n : ℕ) (xs : List ℕ) → n < length xs → take (suc n) xs ≡ take n xs ++ get_or xs n 0 ∷ []
        next n [] less = absurd (omega arith)
        next zero (x ∷ xs) less = refl
        next (suc n) (x ∷ xs) less = ap (λ l. x ∷ l) (next n xs (omega arith))
range-more [] (suc from) at low within = absurd (omega arith)
range-more (x ∷ line) (suc from) zero low within = absurd (omega arith)
range-more (x ∷ line) (suc from) (suc at) low within =
    let a : suc at + 1 - suc from ≡ at + 1 - from = omega arith in
    let b : suc at - suc from ≡ at - from = omega arith in
    rw (a, b) (range-more line from at (omega arith) (omega arith))

pub cut-more : (line : List ℕ) (from at : ℕ) → from ≤ at → at < length line → is_blank (get_or line at 0) ≡ false → IsCut line from at → IsCut line from (at + 1)
cut-more line from at low within solid cut = record {
  field = cut.field ∙ ap (λ l. slice_range line from at ++ l) (ap stretch (drop-next at line within) ∙ stretch-more (get_or line at 0) (drop (at + 1) line) solid)
      ∙ sym (append_assoc (slice_range line from at) (get_or line at 0 ∷ []) (stretch (drop (at + 1) line)))
      ∙ ap (λ l. l ++ stretch (drop (at + 1) line)) (sym (range-more line from at low within));
  rest = cut.rest ∙ ap beyond (drop-next at line within) ∙ beyond-more (get_or line at 0) (drop (at + 1) line) solid;
}

stretch-end : (line : List ℕ) (at : ℕ) → length line ≤ at → stretch (drop at line) ≡ []
unfolding stretch
stretch-end line at over = ap stretch (drop-end at line over)

beyond-end : (line : List ℕ) (at : ℕ) → length line ≤ at → beyond (drop at line) ≡ drop at line
unfolding beyond
beyond-end line at over = ap beyond (drop-end at line over) ∙ sym (drop-end at line over)

-- a field ends at the end of the line
pub cut-end_field : (line : List ℕ) (from at : ℕ) → length line ≤ at → IsCut line from at → stretch (drop from line) ≡ slice_range line from at
cut-end_field line from at over cut = cut.field ∙ ap (λ l. slice_range line from at ++ l) (stretch-end line at over) ∙ append-nil (slice_range line from at)

pub cut-end_rest : (line : List ℕ) (from at : ℕ) → length line ≤ at → IsCut line from at → beyond (drop from line) ≡ drop at line
cut-end_rest line from at over cut = cut.rest ∙ beyond-end line at over

-- or at a blank
pub cut-blank_field : (line : List ℕ) (from at : ℕ) → at < length line → is_blank (get_or line at 0) ≡ true → IsCut line from at → stretch (drop from line) ≡ slice_range line from at
cut-blank_field line from at within blank cut =
    cut.field ∙ ap (λ l. slice_range line from at ++ l) (ap stretch (drop-next at line within) ∙ stretch-blank (get_or line at 0) (drop (at + 1) line) blank)
    ∙ append-nil (slice_range line from at)

pub cut-blank_rest : (line : List ℕ) (from at : ℕ) → at < length line → is_blank (get_or line at 0) ≡ true → IsCut line from at → beyond (drop from line) ≡ drop at line
cut-blank_rest line from at within blank cut =
    cut.rest ∙ ap beyond (drop-next at line within) ∙ beyond-blank (get_or line at 0) (drop (at + 1) line) blank ∙ sym (drop-next at line within)

-- the first field from a place on, which begins behind a gap
pub field-cut : (line : List ℕ) (from begin end : ℕ) → fields (drop from line) ≡ fields (drop begin line) → begin < length line
    → is_blank (get_or line begin 0) ≡ false → begin + 1 ≤ end
    → stretch (drop (begin + 1) line) ≡ slice_range line (begin + 1) end → beyond (drop (begin + 1) line) ≡ drop end line
    → fields (drop from line) ≡ slice_range line begin end ∷ fields (drop end line)
field-cut line from begin end gap within solid low field rest =
    gap ∙ ap fields (drop-next begin line within) ∙ fields-first (get_or line begin 0) (drop (begin + 1) line) solid
    ∙ ap (λ s. (get_or line begin 0 ∷ s) ∷ fields (beyond (drop (begin + 1) line))) field
    ∙ ap (λ s. (get_or line begin 0 ∷ slice_range line (begin + 1) end) ∷ fields s) rest
    ∙ ap (λ s. s ∷ fields (drop end line)) (sym whole)
  where
    whole : slice_range line begin end ≡ get_or line begin 0 ∷ slice_range line (begin + 1) end
    whole =
        let one : end - begin ≡ suc (end - (begin + 1)) = omega arith in
        rw one (ap (take (suc (end - (begin + 1)))) (drop-next begin line within))
