-- How many columns darts read where another part may have to be asked.
use Rattle.std.proofs.Common.{◌≡◌, ℕ, zero, suc, ◌+◌, ◌≤◌, Bool, true, false, List, [], length, Option, Some, None, refl, ap, sym, ◌∙◌, arith}
use Rattle.std.specs.Prelude.{◌==◌}
use Rattle.std.proofs.lemmas.Bool.Decides.{nat_tests}
use Rattle.walk_model.specs.declared.graph.Edge.{Edge}
use Rattle.walk_model.specs.declared.messages.Question.{Question}
use Rattle.walk_model.specs.Graph.{weights_of}
use Rattle.walk_model.specs.Dart.{Board, hit}
use Rattle.walk_model.specs.Letters.{Asker}
use Rattle.walk_model.proofs.BoardLemmas.{length-weights_of}
use Rattle.factor_table.proofs.FlatBoardLaws.{flat_board, hit-flat}
use Rattle.traveller.specs.Ticks.{dart_column, later_columns, columns, row_columns}
use Rattle.traveller.specs.Turns.{edge_question}
use Rattle.traveller.proofs.FarLemmas.{question-flat}
use Rattle.traveller.proofs.TickLemmas.{column-flat}

-- without darts none is read
pub asked-spent : (n : ℕ) (r : Option Asker) (b : Board) (words : ℕ → ℕ) (place : ℕ) → n ≡ 0 → columns n r b words place ≡ 0
unfolding columns
asked-spent n r b words place e = rw e refl

-- a dart that hits is the last one
pub asked-hit : (n more : ℕ) (r : Option Asker) (b : Board) (words : ℕ → ℕ) (place edge : ℕ) → n ≡ suc more
    → edge_question r b (words place) ≡ None → hit b (words place) ≡ Some edge → columns n r b words place ≡ dart_column b (words place)
unfolding columns
asked-hit n more r b words place edge e asks hits =
    let own : dart_column b (words place) + 0 ≡ dart_column b (words place) = omega arith in
    rw e
    (ap (λ q. dart_column b (words place) + later_columns q (hit b (words place)) (columns more r b words (place + 1))) asks
    ∙ ap (λ o. dart_column b (words place) + later_columns None o (columns more r b words (place + 1))) hits ∙ own)

-- so is one that has to ask
pub asked-asks : (n more : ℕ) (r : Option Asker) (b : Board) (words : ℕ → ℕ) (place : ℕ) (q : Question) → n ≡ suc more
    → edge_question r b (words place) ≡ Some q → columns n r b words place ≡ dart_column b (words place)
unfolding columns
asked-asks n more r b words place q e asks =
    let own : dart_column b (words place) + 0 ≡ dart_column b (words place) = omega arith in
    rw e (ap (λ o. dart_column b (words place) + later_columns o (hit b (words place)) (columns more r b words (place + 1))) asks ∙ own)

-- after another come the rest
pub asked-passed : (n more : ℕ) (r : Option Asker) (b : Board) (words : ℕ → ℕ) (place : ℕ) → n ≡ suc more
    → edge_question r b (words place) ≡ None → hit b (words place) ≡ None
    → columns n r b words place ≡ dart_column b (words place) + columns more r b words (place + 1)
unfolding columns
asked-passed n more r b words place e asks misses =
    rw e
    (ap (λ q. dart_column b (words place) + later_columns q (hit b (words place)) (columns more r b words (place + 1))) asks
    ∙ ap (λ o. dart_column b (words place) + later_columns None o (columns more r b words (place + 1))) misses)

-- where nothing rises, no run of edges changes the columns
pub asked-flat : (n : ℕ) (a : Asker) (ws fs : List ℕ) (h from count : ℕ) (words : ℕ → ℕ) (place : ℕ)
    → columns n (Some a) (flat_board ws fs h from count) words place ≡ columns n (Some a) (flat_board ws fs h 0 0) words place
unfolding columns
asked-flat zero a ws fs h from count words place = refl
asked-flat (suc n) a ws fs h from count words place =
    rw (
      question-flat a ws fs h from count (words place),
      hit-flat ws fs h from count (words place),
      column-flat ws fs h from count (words place),
      asked-flat n a ws fs h from count words (place + 1),
    ) refl

-- an empty row reads none
pub asked-empty : (left : ℕ) (r : Option Asker) (b : Board) (weighted : Bool) (out : List Edge) (words : ℕ → ℕ) (place : ℕ)
    → weights_of weighted out ≡ [] → row_columns left r b out words place ≡ 0
asked-empty left r b weighted out words place is =
    let long : length out ≡ 0 = sym (length-weights_of weighted out) ∙ ap (λ l. length l) is in
    let none : (length out == 0) ≡ true = grind (arith, nat_tests) in
    rw none refl

-- and another those of its darts
pub asked-full : (left : ℕ) (r : Option Asker) (b : Board) (weighted : Bool) (out : List Edge) (ws : List ℕ) (words : ℕ → ℕ) (place : ℕ)
    → weights_of weighted out ≡ ws → 1 ≤ length ws → columns left r b words place ≡ row_columns left r b out words place
asked-full left r b weighted out ws words place is some =
    let long : length ws ≡ length out = ap (λ l. length l) (sym is) ∙ length-weights_of weighted out in
    let full : (length out == 0) ≡ false = grind (arith, nat_tests) in
    rw full refl
