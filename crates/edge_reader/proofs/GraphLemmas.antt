-- Laws of the graph of an edge list.
use Rattle.std.proofs.Common.{◌≡◌, ℕ, ◌+◌, ◌-◌, ◌≤◌, ◌<◌, zero, suc, take, ◌==◌, ◌&&◌, not, nat_le, Bool, true, false, if◌then◌else◌, List, [], ◌∷◌, length, get_or, All, length-append, Option, Some, None, IfSome, Result, Ok, Err, IfOk, refl, arith}
use Rattle.std.proofs.lemmas.List.Elements.{All-append}
use Rattle.walk_model.specs.declared.graph.Edge.{Edge}
use Rattle.walk_model.specs.declared.faults.Why.{Why}
use Rattle.walk_model.specs.declared.faults.Why.TheVariants.{Number, TooGreat}
use Rattle.walk_model.specs.declared.faults.LineFault.{LineFault}
use Rattle.walk_model.specs.Digits.{continued, number_of}
use Rattle.std.specs.Str.{all_ascii_digits}
use Rattle.edge_reader.specs.declared.limits.ReadLimits.{ReadLimits}
use Rattle.edge_reader.specs.Lines.{fields, is_comment, without_return, lines_in}
use Rattle.edge_reader.specs.GraphFile.{not_zero, edge_of, id_of, edge_of_fields, trimmed_edge, line_edge, mirror, edges_of, in_front, after_line, edges_from, too_long, graph_in, graph_of}

edges_from-none : (u : Bool) (n r : ℕ) → edges_from u n r [] ≡ Ok []
unfolding edges_from
edges_from-none u n r = refl

edges_from-line : (u : Bool) (n r : ℕ) (l : List ℕ) (ls : List (List ℕ)) → edges_from u n r (l ∷ ls) ≡ after_line u n r (line_edge l) (λ left. edges_from u (n + 1) left ls)
unfolding edges_from
edges_from-line u n r l ls = refl

-- a weight is from 1 to the greatest one
abbrev pub IsWeight : ℕ → Type 0
IsWeight w = (1 ≤ w) × (w ≤ 4294967295)

abbrev pub IsWeighed : Edge → Type 0
IsWeighed e = IsWeight e.weight

-- what holds of the edges of all lines
abbrev pub IsFine : ℕ → Result (List Edge) LineFault → Type 0
IsFine room r = IfOk r (λ es. (length es ≤ room) × All IsWeighed es)

front-fine : (es : List Edge) (room : ℕ) (later : Result (List Edge) LineFault) → length es ≤ room → All IsWeighed es
    → IsFine (room - length es) later → IsFine room (in_front es later)
front-fine es room (Ok fs) low weighed fine = (omega (arith, length-append es fs, fine.0), All-append IsWeighed es fs weighed fine.1)
front-fine es room (Err f) low weighed fine = tt

none-weighed : All IsWeighed []
none-weighed = λ k d low. absurd (omega arith)

one-weighed : (e : Edge) (es : List Edge) → IsWeighed e → All IsWeighed es → All IsWeighed (e ∷ es)
one-weighed e es first rest = λ k d. split k d
  where
    split : (k : ℕ) (d : Edge) → k < length (e ∷ es) → IsWeighed (get_or (e ∷ es) k d)
    split zero d low = first
    split (suc k) d low = rest k d (omega arith)

edges_of-weighed : (u : Bool) (o : Option Edge) → IfSome o IsWeighed → All IsWeighed (edges_of u o)
edges_of-weighed u None weighed = none-weighed
edges_of-weighed u (Some e) weighed =
    let cases : (t : Bool) → All IsWeighed (if t then e ∷ mirror e ∷ [] else e ∷ []) =
    λ t. elim t as (λ t. All IsWeighed (if t then e ∷ mirror e ∷ [] else e ∷ [])) [
      | true ↦ one-weighed e (mirror e ∷ []) weighed (one-weighed (mirror e) [] weighed none-weighed)
      | false ↦ one-weighed e [] weighed none-weighed
    ] in
    cases (u && not (e.src == e.dst))

line-fine : (u : Bool) (n room : ℕ) (edge : Result (Option Edge) Why) (later : ℕ → Result (List Edge) LineFault) → IfOk edge (λ o. IfSome o IsWeighed)
    → ((left : ℕ) → IsFine left (later left)) → IsFine room (after_line u n room edge later)
line-fine u n room (Err why) later weighed fine = tt
line-fine u n room (Ok o) later weighed fine =
    let cases : (t : Bool) → nat_le (length (edges_of u o)) room ≡ t → IsFine room (after_line u n room (Ok o) later) =
    λ t. elim t as (λ t. nat_le (length (edges_of u o)) room ≡ t → IsFine room (after_line u n room (Ok o) later)) [
      | true ↦ (λ e.
          let low : length (edges_of u o) ≤ room = grind arith in
          rw e (front-fine (edges_of u o) room (later (room - length (edges_of u o))) low (edges_of-weighed u o weighed) (fine (room - length (edges_of u o)))))
      | false ↦ (λ e. rw e tt)
    ] in
    cases (nat_le (length (edges_of u o)) room) refl

-- the edge of a line has a weight
edge_of-weighed : (s d w k : Result ℕ Why) → IfOk w IsWeight → IfOk (edge_of s d w k) (λ o. IfSome o IsWeighed)
edge_of-weighed (Err e) d w k weight = tt
edge_of-weighed (Ok s) (Err e) w k weight = tt
edge_of-weighed (Ok s) (Ok d) (Err e) k weight = tt
edge_of-weighed (Ok s) (Ok d) (Ok w) (Err e) weight = tt
edge_of-weighed (Ok s) (Ok d) (Ok w) (Ok k) weight = weight

judge-low : (digits : Bool) (n most : ℕ) → IfOk (if digits then (if nat_le n most then Ok n else Err TooGreat) else Err Number) (λ n. n ≤ most)
judge-low false n most = tt
judge-low true n most =
    let cases : (t : Bool) → nat_le n most ≡ t → IfOk (if nat_le n most then Ok n else Err TooGreat) (λ n. n ≤ most) =
    λ t. elim t as (λ t. nat_le n most ≡ t → IfOk (if nat_le n most then Ok n else Err TooGreat) (λ n. n ≤ most))
    [ true ↦ (λ e. let low : n ≤ most = grind arith in rw e low) | false ↦ (λ e. rw e tt) ] in
    cases (nat_le n most) refl

number_of-low : (most : ℕ) (f : List ℕ) → IfOk (number_of most f) (λ n. n ≤ most)
unfolding number_of
number_of-low most f = judge-low (all_ascii_digits f) (continued 0 f) most

not_zero-weight : (r : Result ℕ Why) → IfOk r (λ n. n ≤ 4294967295) → IfOk (not_zero r) IsWeight
not_zero-weight (Err why) low = tt
not_zero-weight (Ok w) low =
    let cases : (t : Bool) → (w == 0) ≡ t → IfOk (not_zero (Ok w)) IsWeight =
    λ t. elim t as (λ t. (w == 0) ≡ t → IfOk (not_zero (Ok w)) IsWeight)
    [ true ↦ (λ e. rw e tt) | false ↦ (λ e. let some : 1 ≤ w = grind arith in rw e (some, low)) ] in
    cases (w == 0) refl

weight-low : (w : List ℕ) → IfOk (not_zero (id_of w)) IsWeight
weight-low w = not_zero-weight (id_of w) (number_of-low 4294967295 w)

fields-weighed : (fs : List (List ℕ)) → IfOk (edge_of_fields fs) (λ o. IfSome o IsWeighed)
unfolding edge_of_fields
fields-weighed [] = tt
fields-weighed (a ∷ []) = tt
fields-weighed (a ∷ b ∷ []) = edge_of-weighed (id_of a) (id_of b) (Ok 1) (Ok 0) (omega arith, omega arith)
fields-weighed (a ∷ b ∷ c ∷ []) = edge_of-weighed (id_of a) (id_of b) (not_zero (id_of c)) (Ok 0) (weight-low c)
fields-weighed (a ∷ b ∷ c ∷ d ∷ []) = edge_of-weighed (id_of a) (id_of b) (not_zero (id_of c)) (number_of 255 d) (weight-low c)
fields-weighed (a ∷ b ∷ c ∷ d ∷ e ∷ fs) = tt

trimmed-weighed : (line : List ℕ) → IfOk (trimmed_edge line) (λ o. IfSome o IsWeighed)
trimmed-weighed line =
    let cases : (t : Bool) → IfOk (if t then Ok None else edge_of_fields (fields line)) (λ o. IfSome o IsWeighed) =
    λ t. elim t as (λ t. IfOk (if t then Ok None else edge_of_fields (fields line)) (λ o. IfSome o IsWeighed))
    [ true ↦ tt | false ↦ fields-weighed (fields line) ] in
    cases (is_comment line)

edges-fine : (u : Bool) (n room : ℕ) (ls : List (List ℕ)) → IsFine room (edges_from u n room ls)
edges-fine u n room [] = rw (edges_from-none u n room) (omega arith, none-weighed)
edges-fine u n room (l ∷ ls) =
    rw (edges_from-line u n room l ls)
    (line-fine u n room (line_edge l) (λ left. edges_from u (n + 1) left ls) (trimmed-weighed (without_return l)) (λ left. edges-fine u (n + 1) left ls))

too_long-fine : (room : ℕ) (r : Result (List Edge) LineFault) → IsFine room (too_long r)
too_long-fine room (Ok es) = tt
too_long-fine room (Err f) = tt

graph-fine : (u : Bool) (limits : ReadLimits) (bytes : List ℕ) → IsFine limits.edges (graph_of u limits bytes)
unfolding graph_in
graph-fine u limits bytes =
    let one = edges_from u 1 limits.edges (lines_in true bytes) in
    let other = too_long (edges_from u 1 limits.edges (lines_in false (take limits.bytes bytes))) in
    let cases : (t : Bool) → IsFine limits.edges (if t then one else other) =
    λ t. elim t as (λ t. IsFine limits.edges (if t then one else other))
    [ true ↦ edges-fine u 1 limits.edges (lines_in true bytes) | false ↦ too_long-fine limits.edges _ ] in
    cases (nat_le (length bytes) limits.bytes)

-- no more edges than the limit says
pub graph_of-few : (u : Bool) (limits : ReadLimits) (bytes : List ℕ) (es : List Edge) → graph_of u limits bytes ≡ Ok es → length es ≤ limits.edges
graph_of-few u limits bytes es edges = let fine : IsFine limits.edges (Ok es) = rw edges at (graph-fine u limits bytes) in fine.0

-- each edge has a weight from 1 up to the greatest one
pub graph_of-weights : (u : Bool) (limits : ReadLimits) (bytes : List ℕ) (es : List Edge) → graph_of u limits bytes ≡ Ok es → All IsWeighed es
graph_of-weights u limits bytes es edges = let fine : IsFine limits.edges (Ok es) = rw edges at (graph-fine u limits bytes) in fine.1
