-- A text byte by byte and line by line.
use Rattle.std.proofs.Common.{◌≡◌, ◌≢◌, ◌==◌, ℕ, ◌+◌, ◌≤◌, Bool, true, false, List, [], ◌∷◌, ◌++◌, length, drop, get_or, add-one, drop-cons, length-drop, ◌<◌, Result, Ok, Err, OnOk, IfErr, refl, ap, sym, ◌∙◌, arith}
use Rattle.std.proofs.lemmas.List.{append-nil}
use Rattle.walk_model.specs.declared.graph.Edge.{Edge}
use Rattle.walk_model.specs.declared.faults.LineFault.{LineFault}
use Rattle.walk_model.specs.declared.faults.LineFault.TheVariants.{Bad, Limit, Memory}
use Rattle.edge_reader.specs.declared.unfinished.Line.{Line}
use Rattle.edge_reader.specs.declared.progress.Progress.{Progress}
use Rattle.edge_reader.specs.Lines.{lines_of, ended_lines, lines_in, in_first, in_first_ended}
use Rattle.edge_reader.specs.GraphFile.{line_edge, after_line, edges_from, in_front, IsFault}
use Rattle.edge_reader.specs.Unfinished.{line_with}
use Rattle.edge_reader.specs.Taken.{lines_with, edges_with}

-- one byte of a text and its lines
lines_of-feed : (b : ℕ) (bs : List ℕ) → b ≡ 10 → lines_of (b ∷ bs) ≡ [] ∷ lines_of bs
unfolding lines_of
lines_of-feed b bs at = rw at refl

lines_of-more : (b : ℕ) (bs : List ℕ) → b ≢ 10 → lines_of (b ∷ bs) ≡ in_first b (lines_of bs)
unfolding lines_of
lines_of-more b bs other = grind arith

lines_of-none : lines_of [] ≡ [] ∷ []
unfolding lines_of
lines_of-none = refl

ended_lines-feed : (b : ℕ) (bs : List ℕ) → b ≡ 10 → ended_lines (b ∷ bs) ≡ [] ∷ ended_lines bs
unfolding ended_lines
ended_lines-feed b bs at = rw at refl

ended_lines-more : (b : ℕ) (bs : List ℕ) → b ≢ 10 → ended_lines (b ∷ bs) ≡ in_first_ended b (ended_lines bs)
unfolding ended_lines
ended_lines-more b bs other = grind arith

ended_lines-none : ended_lines [] ≡ []
unfolding ended_lines
ended_lines-none = refl

lines_in-feed : (whole : Bool) (b : ℕ) (bs : List ℕ) → b ≡ 10 → lines_in whole (b ∷ bs) ≡ [] ∷ lines_in whole bs
lines_in-feed true b bs at = lines_of-feed b bs at
lines_in-feed false b bs at = ended_lines-feed b bs at

-- there is always a first line
lines_of-some : (bs : List ℕ) → lines_of bs ≢ []
lines_of-some [] = λ none. let first = lines_of-none in cc
lines_of-some (b ∷ bs) =
    let cases : (t : Bool) → (b == 10) ≡ t → lines_of (b ∷ bs) ≢ [] =
    λ t. elim t as (λ t. (b == 10) ≡ t → lines_of (b ∷ bs) ≢ []) [
      | true ↦ (λ e. let at : b ≡ 10 = grind arith in let first = lines_of-feed b bs at in λ none. cc)
      | false ↦ (λ e. let other : b ≢ 10 = grind arith in let first = lines_of-more b bs other in λ none. in_first-some b (lines_of bs) (sym first ∙ none))
    ] in
    cases (b == 10) refl
  where
    in_first-some : (b : ℕ) (ls : List (List ℕ)) → in_first b ls ≢ []
    in_first-some b [] = λ none. cc
    in_first-some b (l ∷ ls) = λ none. cc

edges_from-none : (u : Bool) (n r : ℕ) → edges_from u n r [] ≡ Ok []
unfolding edges_from
edges_from-none u n r = refl

edges_from-line : (u : Bool) (n r : ℕ) (l : List ℕ) (ls : List (List ℕ)) → edges_from u n r (l ∷ ls) ≡ after_line u n r (line_edge l) (λ left. edges_from u (n + 1) left ls)
unfolding edges_from
edges_from-line u n r l ls = refl

-- lines of which the first goes on an empty one
pub lines_with-start : (u : Bool) (n r : ℕ) (line : Line) (ls : List (List ℕ)) → ((text : List ℕ) → line_with line text ≡ line_edge text)
    → lines_with u n r line ls ≡ edges_from u n r ls
lines_with-start u n r line [] start = sym (edges_from-none u n r)
lines_with-start u n r line (l ∷ ls) start =
    ap (λ e. after_line u n r e (λ left. edges_from u (n + 1) left ls)) (start l) ∙ sym (edges_from-line u n r l ls)

-- all edges, where the unfinished line is this one
abbrev pub at_line : Progress → Line → Bool → List ℕ → Result (List Edge) LineFault
at_line p line whole text = in_front p.edges.items (lines_with p.undirected p.number p.room line (lines_in whole text))

pub at_line-own : (p : Progress) (whole : Bool) (text : List ℕ) → edges_with whole p text ≡ at_line p p.line whole text
unfolding edges_with
at_line-own p whole text = refl

-- a byte that doesn't end the line
first-more : (u : Bool) (n r : ℕ) (line after : Line) (b : ℕ) (ls : List (List ℕ)) → ls ≢ [] → ((rest : List ℕ) → line_with after rest ≡ line_with line (b ∷ rest))
    → lines_with u n r line (in_first b ls) ≡ lines_with u n r after ls
first-more u n r line after b [] some same = absurd (some refl)
first-more u n r line after b (l ∷ ls) some same = ap (λ e. after_line u n r e (λ left. edges_from u (n + 1) left ls)) (sym (same l))

first_ended-more : (u : Bool) (n r : ℕ) (line after : Line) (b : ℕ) (ls : List (List ℕ)) → ((rest : List ℕ) → line_with after rest ≡ line_with line (b ∷ rest))
    → lines_with u n r line (in_first_ended b ls) ≡ lines_with u n r after ls
first_ended-more u n r line after b [] same = refl
first_ended-more u n r line after b (l ∷ ls) same = ap (λ e. after_line u n r e (λ left. edges_from u (n + 1) left ls)) (sym (same l))

pub lines_with-more : (u : Bool) (n r : ℕ) (line after : Line) (whole : Bool) (b : ℕ) (text : List ℕ) → b ≢ 10 → ((rest : List ℕ) → line_with after rest ≡ line_with line (b ∷ rest))
    → lines_with u n r line (lines_in whole (b ∷ text)) ≡ lines_with u n r after (lines_in whole text)
lines_with-more u n r line after true b text other same =
    ap (lines_with u n r line) (lines_of-more b text other) ∙ first-more u n r line after b (lines_of text) (lines_of-some text) same
lines_with-more u n r line after false b text other same =
    ap (lines_with u n r line) (ended_lines-more b text other) ∙ first_ended-more u n r line after b (ended_lines text) same

-- a line feed
pub at_line-feed : (p : Progress) (line : Line) (whole : Bool) (b : ℕ) (text : List ℕ) → b ≡ 10
    → at_line p line whole (b ∷ text) ≡ in_front p.edges.items (after_line p.undirected p.number p.room (line_with line []) (λ left. edges_from p.undirected (p.number + 1) left (lines_in whole text)))
at_line-feed p line whole b text at = ap (λ ls. in_front p.edges.items (lines_with p.undirected p.number p.room line ls)) (lines_in-feed whole b text at)

pub at_line-next : (p q : Progress) (line start : Line) (whole : Bool) (b : ℕ) (text : List ℕ) → b ≡ 10 → q.number ≡ p.number + 1 → q.undirected ≡ p.undirected
    → ((later : ℕ → Result (List Edge) LineFault) → in_front p.edges.items (after_line p.undirected p.number p.room (line_with line []) later) ≡ in_front q.edges.items (later q.room))
    → ((text : List ℕ) → line_with start text ≡ line_edge text)
    → at_line p line whole (b ∷ text) ≡ at_line q start whole text
at_line-next p q line start whole b text at next same added begins =
    at_line-feed p line whole b text at
    ∙ added (λ left. edges_from p.undirected (p.number + 1) left (lines_in whole text))
    ∙ sym (ap (in_front q.edges.items) (lines_with-start q.undirected q.number q.room start (lines_in whole text) begins
    ∙ ap (λ n. edges_from q.undirected n q.room (lines_in whole text)) next
    ∙ ap (λ u. edges_from u (p.number + 1) q.room (lines_in whole text)) same))

pub at_line-fault : (p : Progress) (line : Line) (whole : Bool) (b : ℕ) (text : List ℕ) (f : LineFault) → b ≡ 10
    → ((es : List Edge) (later : ℕ → Result (List Edge) LineFault) → IsFault f (in_front es (after_line p.undirected p.number p.room (line_with line []) later)))
    → IsFault f (at_line p line whole (b ∷ text))
at_line-fault p line whole b text f at fault =
    rw (at_line-feed p line whole b text at) (fault p.edges.items (λ left. edges_from p.undirected (p.number + 1) left (lines_in whole text)))

-- a line that isn't ended by a line feed
pub edges_with-end : (p : Progress) → edges_with true p [] ≡ in_front p.edges.items (after_line p.undirected p.number p.room (line_with p.line []) (λ left. Ok []))
edges_with-end p =
    at_line-own p true []
    ∙ ap (λ ls. in_front p.edges.items (lines_with p.undirected p.number p.room p.line ls)) lines_of-none
    ∙ ap (λ (later : ℕ → Result (List Edge) LineFault). in_front p.edges.items (after_line p.undirected p.number p.room (line_with p.line []) later)) (λ i left. edges_from-none p.undirected (p.number + 1) left i)

-- no line has ended
pub edges_with-none : (p : Progress) → edges_with false p [] ≡ Ok p.edges.items
edges_with-none p =
    at_line-own p false []
    ∙ ap (λ ls. in_front p.edges.items (lines_with p.undirected p.number p.room p.line ls)) ended_lines-none
    ∙ ap (λ (es : List Edge). Ok es) (append-nil p.edges.items)

pub end-edges : {A : Type 0} (p q : Progress) (result : Result A LineFault)
    → OnOk result ((later : ℕ → Result (List Edge) LineFault) → in_front p.edges.items (after_line p.undirected p.number p.room (line_with p.line []) later) ≡ in_front q.edges.items (later q.room))
    → OnOk result (edges_with true p [] ≡ Ok q.edges.items)
end-edges p q (Ok x) added = edges_with-end p ∙ added (λ left. Ok []) ∙ ap (λ (es : List Edge). Ok es) (append-nil q.edges.items)
end-edges p q (Err f) added = tt

pub end-fault : {A : Type 0} (p : Progress) (result : Result A LineFault)
    → IfErr result (λ f. (es : List Edge) (later : ℕ → Result (List Edge) LineFault) → IsFault f (in_front es (after_line p.undirected p.number p.room (line_with p.line []) later)))
    → IfErr result (λ f. IsFault f (edges_with true p []))
end-fault p (Ok x) fault = tt
end-fault p (Err f) fault = rw (edges_with-end p) (fault p.edges.items (λ left. Ok []))

-- a fault stays behind further edges
pub in_front-fault : (es : List Edge) (f : LineFault) (r : Result (List Edge) LineFault) → IsFault f r → IsFault f (in_front es r)
in_front-fault es Memory r fault = tt
in_front-fault es (Bad line why) r fault = ap (in_front es) fault
in_front-fault es (Limit what) r fault = ap (in_front es) fault

-- a list from one of its elements on
pub drop-next : (i : ℕ) (xs : List ℕ) → i < length xs → drop i xs ≡ get_or xs i 0 ∷ drop (i + 1) xs
drop-next i xs there = rw add-one (drop-cons xs i 0 there)

pub drop-end : (i : ℕ) (xs : List ℕ) → length xs ≤ i → drop i xs ≡ []
drop-end i xs over = let none : length (drop i xs) ≡ 0 = omega (arith, length-drop i xs) in empty-is (drop i xs) none
  where
    empty-is : (ys : List ℕ) → length ys ≡ 0 → ys ≡ []
    empty-is [] none = refl
    empty-is (y ∷ ys) none = absurd (omega arith)

-- the byte at a place, which doesn't end the line
pub lines_with-next : (u : Bool) (n r : ℕ) (line after : Line) (whole : Bool) (at : ℕ) (piece text : List ℕ) → at < length piece → get_or piece at 0 ≢ 10
    → ((rest : List ℕ) → line_with after rest ≡ line_with line (get_or piece at 0 ∷ rest))
    → lines_with u n r line (lines_in whole (drop at piece ++ text)) ≡ lines_with u n r after (lines_in whole (drop (at + 1) piece ++ text))
lines_with-next u n r line after whole at piece text there other same =
    ap (λ xs. lines_with u n r line (lines_in whole (xs ++ text))) (drop-next at piece there)
    ∙ lines_with-more u n r line after whole (get_or piece at 0) (drop (at + 1) piece ++ text) other same
