-- The input that a reader has taken.
use Rattle.std.proofs.Common.{◌≡◌, ℕ, ◌+◌, ◌-◌, ◌≤◌, ◌<◌, nat_le, Bool, true, false, List, [], ◌++◌, length, take, append_assoc, length-append, Some, None, Result, Ok, Err, IsOk, OnOk, IfErr, refl, ap, sym, ◌∙◌, arith}
use Rattle.std.proofs.lemmas.List.{append-nil, take-append-le}
use Rattle.std.proofs.Math.Seq.{take-append-add}
use Rattle.walk_model.specs.declared.graph.Edge.{Edge}
use Rattle.walk_model.specs.declared.faults.Limit.TheVariants.{GraphBytes}
use Rattle.walk_model.specs.declared.faults.LineFault.{LineFault}
use Rattle.walk_model.specs.declared.faults.LineFault.TheVariants.{Bad, Limit, Memory}
use Rattle.edge_reader.specs.declared.limits.ReadLimits.{ReadLimits}
use Rattle.edge_reader.specs.declared.progress.Progress.{Progress}
use Rattle.edge_reader.specs.declared.reader.EdgeReader.{EdgeReader}
use Rattle.edge_reader.specs.Lines.{lines_in}
use Rattle.edge_reader.specs.GraphFile.{line_edge, edges_from, in_front, too_long, graph_in, graph_of, graph_so_far, IsFault}
use Rattle.edge_reader.specs.Unfinished.{line_with}
use Rattle.edge_reader.specs.Taken.{lines_with, edges_with, within, unless, answer, Took}
use Rattle.edge_reader.proofs.TextLemmas.{lines_with-start, at_line-own, edges_with-none}

-- a text that fits, and one that doesn't
within-fits : (left : ℕ) (whole : Bool) (p : Progress) (text : List ℕ) → length text ≤ left → within left whole p text ≡ edges_with whole p text
unfolding within
within-fits left whole p text fits = let yes : nat_le (length text) left ≡ true = grind arith in rw yes refl

within-over : (left : ℕ) (whole : Bool) (p : Progress) (text : List ℕ) → left < length text → within left whole p text ≡ too_long (edges_with false p (take left text))
unfolding within
within-over left whole p text over = let no : nat_le (length text) left ≡ false = grind arith in rw no refl

-- a piece that fits
pub within-more : (left rest : ℕ) (p q : Progress) (piece : List ℕ) → length piece ≤ left → rest ≡ left - length piece
    → ((whole : Bool) (text : List ℕ) → edges_with whole p (piece ++ text) ≡ edges_with whole q text)
    → (whole : Bool) (text : List ℕ) → within left whole p (piece ++ text) ≡ within rest whole q text
within-more left rest p q piece low rest-is same whole text =
    let cases : (t : Bool) → nat_le (length text) rest ≡ t → within left whole p (piece ++ text) ≡ within rest whole q text =
    λ t. elim t as (λ t. nat_le (length text) rest ≡ t → within left whole p (piece ++ text) ≡ within rest whole q text) [
      | true ↦ (λ e.
          let fits : length text ≤ rest = grind arith in
          let all : length (piece ++ text) ≤ left = omega (arith, length-append piece text) in
          within-fits left whole p (piece ++ text) all ∙ same whole text ∙ sym (within-fits rest whole q text fits))
      | false ↦ (λ e.
          let over : rest < length text = grind arith in
          let all : left < length (piece ++ text) = omega (arith, length-append piece text) in
          within-over left whole p (piece ++ text) all
          ∙ ap (λ xs. too_long (edges_with false p xs)) (take-both left rest piece text low rest-is)
          ∙ ap too_long (same false (take rest text)) ∙ sym (within-over rest whole q text over))
    ] in
    cases (nat_le (length text) rest) refl
  where
    take-both : (left rest : ℕ) (piece text : List ℕ) → length piece ≤ left → rest ≡ left - length piece → take left (piece ++ text) ≡ piece ++ take rest text
    take-both left rest piece text low rest-is =
        let sum : left ≡ length piece + rest = omega arith in
        rw sum (take-append-add piece text rest)

-- a fault comes before too many bytes
too_long-fault : (f : LineFault) (r : Result (List Edge) LineFault) → IsFault f r → IsFault f (too_long r)
too_long-fault Memory r fault = tt
too_long-fault (Bad line why) r fault = ap too_long fault
too_long-fault (Limit what) r fault = ap too_long fault

-- a fault in a piece that fits
pub within-fault : (f : LineFault) (left : ℕ) (p : Progress) (piece : List ℕ) → length piece ≤ left
    → ((whole : Bool) (text : List ℕ) → IsFault f (edges_with whole p (piece ++ text)))
    → (whole : Bool) (text : List ℕ) → IsFault f (within left whole p (piece ++ text))
within-fault f left p piece low fault whole text =
    let cases : (t : Bool) → nat_le (length (piece ++ text)) left ≡ t → IsFault f (within left whole p (piece ++ text)) =
    λ t. elim t as (λ t. nat_le (length (piece ++ text)) left ≡ t → IsFault f (within left whole p (piece ++ text))) [
      | true ↦ (λ e.
          let fits : length (piece ++ text) ≤ left = grind arith in
          rw (within-fits left whole p (piece ++ text) fits) (fault whole text))
      | false ↦ (λ e.
          let over : left < length (piece ++ text) = grind arith in
          rw (within-over left whole p (piece ++ text) over, take-front left piece text low) (too_long-fault f _ (fault false (take (left - length piece) text))))
    ] in
    cases (nat_le (length (piece ++ text)) left) refl
  where
    take-front : (left : ℕ) (piece text : List ℕ) → length piece ≤ left → take left (piece ++ text) ≡ piece ++ take (left - length piece) text
    take-front left piece text low =
        let sum : length piece + (left - length piece) ≡ left = omega arith in
        ap (λ n. take n (piece ++ text)) (sym sum) ∙ take-append-add piece text (left - length piece)

-- a piece that doesn't fit
take-first : (left : ℕ) (piece text : List ℕ) → left < length piece → take left (piece ++ text) ≡ take left piece ++ []
take-first left piece text over = take-append-le left piece text (omega arith) ∙ sym (append-nil (take left piece))

pub within-full : (left : ℕ) (p q : Progress) (piece first : List ℕ) → left < length piece → first ≡ take left piece
    → ((whole : Bool) (text : List ℕ) → edges_with whole p (first ++ text) ≡ edges_with whole q text)
    → (whole : Bool) (text : List ℕ) → within left whole p (piece ++ text) ≡ Err (Limit GraphBytes)
within-full left p q piece first over first-is same whole text =
    let all : left < length (piece ++ text) = omega (arith, length-append piece text) in
    within-over left whole p (piece ++ text) all
    ∙ ap (λ xs. too_long (edges_with false p xs)) (take-first left piece text over ∙ ap (λ xs. xs ++ []) (sym first-is))
    ∙ ap too_long (same false [] ∙ edges_with-none q)

pub within-full_fault : (f : LineFault) (left : ℕ) (p : Progress) (piece first : List ℕ) → left < length piece → first ≡ take left piece
    → ((whole : Bool) (text : List ℕ) → IsFault f (edges_with whole p (first ++ text)))
    → (whole : Bool) (text : List ℕ) → IsFault f (within left whole p (piece ++ text))
within-full_fault f left p piece first over first-is fault whole text =
    let all : left < length (piece ++ text) = omega (arith, length-append piece text) in
    rw (within-over left whole p (piece ++ text) all, take-first left piece text over, ← first-is)
    (too_long-fault f _ (fault false []))

-- a reader that has taken nothing
graph_in-fits : (whole u : Bool) (limits : ReadLimits) (text : List ℕ) → length text ≤ limits.bytes → graph_in whole u limits text ≡ edges_from u 1 limits.edges (lines_in whole text)
unfolding graph_in
graph_in-fits whole u limits text fits = let yes : nat_le (length text) limits.bytes ≡ true = grind arith in rw yes refl

graph_in-over : (whole u : Bool) (limits : ReadLimits) (text : List ℕ) → limits.bytes < length text
    → graph_in whole u limits text ≡ too_long (edges_from u 1 limits.edges (lines_in false (take limits.bytes text)))
unfolding graph_in
graph_in-over whole u limits text over = let no : nat_le (length text) limits.bytes ≡ false = grind arith in rw no refl

in_front-none : (r : Result (List Edge) LineFault) → in_front [] r ≡ r
in_front-none (Ok es) = refl
in_front-none (Err f) = refl

begins : (p : Progress) (whole : Bool) (text : List ℕ) → p.number ≡ 1 → p.edges.items ≡ [] → ((line : List ℕ) → line_with p.line line ≡ line_edge line)
    → edges_with whole p text ≡ edges_from p.undirected 1 p.room (lines_in whole text)
begins p whole text first none start =
    at_line-own p whole text
    ∙ ap (λ es. in_front es (lines_with p.undirected p.number p.room p.line (lines_in whole text))) none
    ∙ in_front-none _
    ∙ lines_with-start p.undirected p.number p.room p.line (lines_in whole text) start
    ∙ ap (λ n. edges_from p.undirected n p.room (lines_in whole text)) first

pub took-none : (u : Bool) (limits : ReadLimits) (r : EdgeReader) → r.fault ≡ None → r.left ≡ limits.bytes → r.progress.undirected ≡ u → r.progress.room ≡ limits.edges
    → r.progress.number ≡ 1 → r.progress.edges.items ≡ [] → ((line : List ℕ) → line_with r.progress.line line ≡ line_edge line) → Took u limits [] r
took-none u limits r none left-is u-is room-is first empty start =
    record { answers = λ whole text. ap (λ f. unless f (within r.left whole r.progress text)) none ∙ all whole text }
  where
    edges : (whole : Bool) (text : List ℕ) → edges_with whole r.progress text ≡ edges_from u 1 limits.edges (lines_in whole text)
    edges whole text =
        begins r.progress whole text first empty start
        ∙ ap (λ v. edges_from v 1 r.progress.room (lines_in whole text)) u-is
        ∙ ap (λ n. edges_from u 1 n (lines_in whole text)) room-is

    within-graph : (left : ℕ) → left ≡ limits.bytes → (whole : Bool) (text : List ℕ) → within left whole r.progress text ≡ graph_in whole u limits text
    within-graph left left-is whole text =
        let cases : (t : Bool) → nat_le (length text) left ≡ t → within left whole r.progress text ≡ graph_in whole u limits text =
        λ t. elim t as (λ t. nat_le (length text) left ≡ t → within left whole r.progress text ≡ graph_in whole u limits text) [
          | true ↦ (λ e.
              let fits : length text ≤ left = grind arith in
              within-fits left whole r.progress text fits ∙ edges whole text ∙ sym (graph_in-fits whole u limits text (omega arith)))
          | false ↦ (λ e.
              let over : left < length text = grind arith in
              within-over left whole r.progress text over ∙ ap too_long (edges false (take left text))
              ∙ ap (λ n. too_long (edges_from u 1 limits.edges (lines_in false (take n text)))) left-is
              ∙ sym (graph_in-over whole u limits text (omega arith)))
        ] in
        cases (nat_le (length text) left) refl

    all : (whole : Bool) (text : List ℕ) → within r.left whole r.progress text ≡ graph_in whole u limits text
    all whole text = within-graph r.left left-is whole text

-- a fault, told by an equation
fault-is : (f : LineFault) (r : Result (List Edge) LineFault) → r ≡ Err f → IsFault f r
fault-is Memory r e = tt
fault-is (Bad line why) r e = e
fault-is (Limit what) r e = e

-- what follows an input that a reader has taken
took-more : (u : Bool) (limits : ReadLimits) (input piece : List ℕ) (r : EdgeReader) (whole : Bool) (text : List ℕ) → Took u limits input r
    → graph_in whole u limits ((input ++ piece) ++ text) ≡ answer whole r (piece ++ text)
took-more u limits input piece r whole text took =
    ap (graph_in whole u limits) (append_assoc input piece text) ∙ sym (took.answers whole (piece ++ text))

took-so_far : (u : Bool) (limits : ReadLimits) (input piece : List ℕ) (r : EdgeReader) → Took u limits input r
    → graph_so_far u limits (input ++ piece) ≡ answer false r (piece ++ [])
took-so_far u limits input piece r took =
    ap (graph_in false u limits) (sym (append-nil (input ++ piece))) ∙ took-more u limits input piece r false [] took

took-all : (u : Bool) (limits : ReadLimits) (input : List ℕ) (r : EdgeReader) → Took u limits input r → graph_of u limits input ≡ answer true r []
took-all u limits input r took = ap (graph_in true u limits) (sym (append-nil input)) ∙ sym (took.answers true [])

-- no fault has come so far
pub so_far-none : (u : Bool) (limits : ReadLimits) (input piece : List ℕ) (r : EdgeReader) (left : ℕ) (q : Progress) → Took u limits input r → r.fault ≡ None
    → ((whole : Bool) (text : List ℕ) → within r.left whole r.progress (piece ++ text) ≡ within left whole q text) → IsOk (graph_so_far u limits (input ++ piece))
so_far-none u limits input piece r left q took none same =
    rw (took-so_far u limits input piece r took ∙ ap (λ f. unless f (within r.left false r.progress (piece ++ []))) none
    ∙ same false [] ∙ within-fits left false q [] (omega arith) ∙ edges_with-none q) refl

-- the first fault has come
pub so_far-fault : (u : Bool) (limits : ReadLimits) (input piece : List ℕ) (r : EdgeReader) (f : LineFault) → Took u limits input r → r.fault ≡ None
    → ((whole : Bool) (text : List ℕ) → IsFault f (within r.left whole r.progress (piece ++ text))) → IsFault f (graph_so_far u limits (input ++ piece))
so_far-fault u limits input piece r f took none fault =
    rw (took-so_far u limits input piece r took ∙ ap (λ f. unless f (within r.left false r.progress (piece ++ []))) none) (fault false [])

-- a fault that has come before
pub met-fault : (u : Bool) (limits : ReadLimits) (input : List ℕ) (r : EdgeReader) (f : LineFault) → Took u limits input r → r.fault ≡ Some f → IsFault f (graph_of u limits input)
met-fault u limits input r f took met =
    fault-is f _ (took-all u limits input r took ∙ ap (λ f. unless f (within r.left true r.progress [])) met)

-- the whole input
ends : (u : Bool) (limits : ReadLimits) (input : List ℕ) (r : EdgeReader) → Took u limits input r → r.fault ≡ None → graph_of u limits input ≡ edges_with true r.progress []
ends u limits input r took none =
    took-all u limits input r took ∙ ap (λ f. unless f (within r.left true r.progress [])) none ∙ within-fits r.left true r.progress [] (omega arith)

pub ends-edges : (u : Bool) (limits : ReadLimits) (input : List ℕ) (r : EdgeReader) (es : List Edge) → Took u limits input r → r.fault ≡ None
    → edges_with true r.progress [] ≡ Ok es → graph_of u limits input ≡ Ok es
ends-edges u limits input r es took none edges = ends u limits input r took none ∙ edges

pub ends-fault : (u : Bool) (limits : ReadLimits) (input : List ℕ) (r : EdgeReader) (f : LineFault) → Took u limits input r → r.fault ≡ None
    → IsFault f (edges_with true r.progress []) → IsFault f (graph_of u limits input)
ends-fault u limits input r f took none fault = rw (ends u limits input r took none) fault

-- a fact that follows from the fact of a result
pub on_ok : {A E X Y : Type 0} (r : Result A E) → (X → Y) → OnOk r X → OnOk r Y
on_ok (Ok a) go x = go x
on_ok (Err e) go x = tt

pub if_err : {A E : Type 0} {P Q : E → Type 0} (r : Result A E) → ((e : E) → P e → Q e) → IfErr r P → IfErr r Q
if_err (Ok a) go p = tt
if_err (Err e) go p = go e p
