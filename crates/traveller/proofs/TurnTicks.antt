-- How many columns a turn reads.
use Rattle.std.proofs.Common.{◌≡◌, ℕ, ◌<◌, true, false, List, refl, ap, sym, ◌∙◌, arith}
use Rattle.std.specs.Prelude.{nat_lt, if◌then◌else◌}
use Rattle.std.proofs.lemmas.Bool.Decides.{nat_tests}
use Rattle.walk_model.specs.declared.states.State.{State}
use Rattle.walk_model.specs.Words.{coin}
use Rattle.walk_model.specs.Letters.{Journey}
use Rattle.csr_store.specs.RowGraph.{RowGraph}
use Rattle.traveller.specs.declared.modes.Mode.TheVariants.{Fresh}
use Rattle.traveller.specs.declared.runs.Run.{Run}
use Rattle.traveller.specs.Standing.{journey_on}
use Rattle.traveller.specs.Ticks.{choice_columns, coins_columns, turn_columns}
use Rattle.traveller.specs.Turns.{stop_coin}
use Rattle.traveller.specs.Walkers.{Walker}

-- none where the coin of the stop falls
pub ticks-stop : (j : Journey) (s : State) (n : ℕ) → (true, n) ≡ stop_coin j s → coins_columns j s ≡ 0
unfolding coins_columns
ticks-stop j s n stop = rw (← stop) refl

-- or that of the restart
pub ticks-back : (j : Journey) (s : State) (m n : ℕ) → (false, m) ≡ stop_coin j s
    → (true, n) ≡ coin j.course.plan.restart j.course.words m → coins_columns j s ≡ 0
unfolding coins_columns
ticks-back j s m n stop restart = rw (← stop, ← restart) refl

-- else those of the choice
pub ticks-choice : (j : Journey) (s : State) (m n : ℕ) → (false, m) ≡ stop_coin j s
    → (false, n) ≡ coin j.course.plan.restart j.course.words m → coins_columns j s ≡ choice_columns j s n
unfolding coins_columns
ticks-choice j s m n stop restart = rw (← stop, ← restart) refl

-- what the beginning of a step reads is what the turn does
pub ticks-fresh : (g : RowGraph) (run : Run) (cuts : List ℕ) (w : Walker) → w.mode ≡ Fresh → w.state.steps < w.length
    → coins_columns (journey_on g run cuts w) w.state ≡ turn_columns (journey_on g run cuts w) w w.mode
ticks-fresh g run cuts w is more =
    let j : Journey = journey_on g run cuts w in
    let yes : nat_lt w.state.steps w.length ≡ true = grind (arith, nat_tests) in
    let begins : (if nat_lt w.state.steps w.length then coins_columns j w.state else 0) ≡ coins_columns j w.state = rw yes refl in
    sym (ap (turn_columns j w) is ∙ begins)
