-- What a step decides, and where it leads.
use Rattle.std.proofs.Common.{◌≡◌, ℕ, zero, suc, ◌+◌, ◌<◌, Bool, true, false, List, [], ◌∷◌, length, Some, None, refl, ap, sym, subst, ◌∙◌, arith}
use Rattle.std.specs.Prelude.{◌==◌, nat_lt, slice_index, if◌then◌else◌}
use Rattle.std.proofs.lemmas.Bool.Decides.{nat_tests}
use Rattle.walk_model.specs.declared.graph.Edge.{Edge}
use Rattle.walk_model.specs.declared.states.State.{State}
use Rattle.walk_model.specs.declared.programme.StartRule.{StartRule}
use Rattle.walk_model.specs.declared.programme.StartRule.TheVariants.{Each}
use Rattle.walk_model.specs.Ratio.{Ratio}
use Rattle.walk_model.specs.Words.{word, coin}
use Rattle.walk_model.specs.Graph.{row, weights_of, ends_of}
use Rattle.walk_model.specs.Dart.{Board, darts}
use Rattle.walk_model.specs.Walk.{restarted, moved_along, walker_count}
use Rattle.walk_model.specs.Letters.{Journey}
use Rattle.walk_model.proofs.BoardLemmas.{length-weights_of}
use Rattle.csr_store.specs.RowGraph.{RowGraph}
use Rattle.vertex_partition.specs.PartViews.{PartView, Owns, IsPartOf}
use Rattle.traveller.specs.declared.modes.Mode.{Mode}
use Rattle.traveller.specs.declared.modes.Mode.TheVariants.{Fresh, Chosen, Over}
use Rattle.traveller.specs.declared.runs.Run.{Run}
use Rattle.traveller.specs.Deciding.{decided, decided_from, coins_decided, gone, gone_from}
use Rattle.traveller.specs.Locals.{local_mode}
use Rattle.traveller.specs.Standing.{journey_on}
use Rattle.traveller.specs.Turns.{stop_coin, stepped, choice_mode, chosen_or_over}
use Rattle.traveller.specs.Walkers.{Walker, fresh_at}

-- a walker's number, where each vertex has one
pub each-below : (rule : StartRule) (n w : ℕ) → rule ≡ Each → w < walker_count rule n → w < n
unfolding walker_count
each-below rule n w is low = subst (λ r. w < walker_count r n) is low

-- the edge of a row that was taken
pub moved-out : (s : State) (out : List Edge) (edge next : ℕ) → edge < length out
    → moved_along s out (edge, next) ≡ Some (record {
      at = slice_index (ends_of out) edge;
      previous = Some s.at;
      phase = s.phase + 1;
      steps = s.steps + 1;
      place = next;
    })
unfolding ends_of
moved-out s [] edge next there = absurd (omega arith)
moved-out s (e ∷ es) zero next there = refl
moved-out s (e ∷ es) (suc edge) next there = moved-out s es edge next (omega arith)

-- a walker that goes along the edge that it has chosen
pub gone-along : (g : RowGraph) (run : Run) (p : PartView) (w : Walker) (edge place to : ℕ) → IsPartOf g p → Owns p w.state.at
    → w.mode ≡ Chosen edge place → edge < length (row p.edges w.state.at) → to ≡ slice_index (ends_of (row p.edges w.state.at)) edge
    → record w {
      state = record { at = to; previous = Some w.state.at; phase = w.state.phase + 1; steps = w.state.steps + 1; place = place };
      mode = Fresh;
    } ≡ gone (journey_on g run p.cuts w) w
gone-along g run p w edge place to of here chosen there end =
    let moved = moved-out w.state (row p.edges w.state.at) edge place there in
    let on : moved_along w.state (row g.edges w.state.at) (edge, place) ≡ moved_along w.state (row p.edges w.state.at) (edge, place) =
    ap (λ out. moved_along w.state out (edge, place)) (sym (of.rows w.state.at here)) in
    rw end
    (sym (ap (gone_from (journey_on g run p.cuts w) w) chosen ∙ ap (stepped w) (on ∙ moved)))

-- what the choice from a row comes to: nothing where it is empty
pub mode-none : (left : ℕ) (b : Board) (weighted : Bool) (out : List Edge) (words : ℕ → ℕ) (place : ℕ) → weights_of weighted out ≡ []
    → Over ≡ local_mode left b out words place
mode-none left b weighted out words place is =
    let long : length out ≡ 0 = sym (length-weights_of weighted out) ∙ ap (λ l. length l) is in
    let none : (length out == 0) ≡ true = grind (arith, nat_tests) in
    rw none refl

-- or where no edge is taken
pub mode-nothing : (left : ℕ) (b : Board) (out : List Edge) (words : ℕ → ℕ) (place : ℕ) → None ≡ darts left b words place
    → Over ≡ local_mode left b out words place
mode-nothing left b out words place is =
    elim (length out == 0) as (λ t. Over ≡ (if t then Over else chosen_or_over (darts left b words place))) [
      | true ↦ refl
      | false ↦ ap chosen_or_over is
    ]

-- or the edge that is
pub mode-some : (left : ℕ) (b : Board) (weighted : Bool) (out : List Edge) (ws : List ℕ) (words : ℕ → ℕ) (place edge next : ℕ)
    → weights_of weighted out ≡ ws → edge < length ws → Some (edge, next) ≡ darts left b words place
    → Chosen edge next ≡ local_mode left b out words place
mode-some left b weighted out ws words place edge next is there taken =
    let long : length ws ≡ length out = ap (λ l. length l) (sym is) ∙ length-weights_of weighted out in
    let some : (length out == 0) ≡ false = grind (arith, nat_tests) in
    rw some (ap chosen_or_over taken)

-- the coin of the stop falls
pub coins-stop : (j : Journey) (v : Walker) (n : ℕ) → (true, n) ≡ stop_coin j v.state → record v { mode = Over } ≡ coins_decided j v
unfolding coins_decided
coins-stop j v n stop = rw (← stop) refl

-- that of the restart falls
pub coins-back : (j : Journey) (v : Walker) (m n : ℕ) → (false, m) ≡ stop_coin j v.state
    → (true, n) ≡ coin j.course.plan.restart j.course.words m
    → stepped v (Some (restarted j.course.start v.state n)) ≡ coins_decided j v
unfolding coins_decided
coins-back j v m n stop restart = rw (← stop, ← restart) refl

-- none of them falls
pub coins-choice : (j : Journey) (v : Walker) (m n : ℕ) (mode : Mode) → (false, m) ≡ stop_coin j v.state
    → (false, n) ≡ coin j.course.plan.restart j.course.words m → mode ≡ choice_mode j v.state n
    → record v { mode = mode } ≡ coins_decided j v
unfolding coins_decided
coins-choice j v m n mode stop restart is = rw (← stop, ← restart) (ap (λ c. record v { mode = c }) is)

-- a coin, by what it goes by
pub same-coin : (x y : Ratio) (seed seed' walker walker' place place' : ℕ) (b c : Bool) (n : ℕ) → b ≡ c → x ≡ y → seed ≡ seed'
    → walker ≡ walker' → place ≡ place' → (b, n) ≡ coin x (word seed walker) place → (c, n) ≡ coin y (word seed' walker') place'
same-coin x y seed seed' walker walker' place place' b c n e f g k h is =
    ap (λ (b : Bool). (b, n)) (sym e) ∙ is ∙ ap (λ (r : Ratio). coin r (word seed walker) place) f
    ∙ ap (λ (m : ℕ). coin y (word m walker) place) g ∙ ap (λ (m : ℕ). coin y (word seed' m) place) k ∙ ap (coin y (word seed' walker')) h

-- what the coins and the choice come to is what a walker decides at the beginning of a step
pub fresh-decided : (g : RowGraph) (run : Run) (cuts : List ℕ) (w : Walker) → w.mode ≡ Fresh → w.state.steps < w.length
    → coins_decided (journey_on g run cuts (fresh_at w.number w.start w.length w.state)) (fresh_at w.number w.start w.length w.state)
    ≡ decided (journey_on g run cuts w) w
fresh-decided g run cuts w is more =
    let j : Journey = journey_on g run cuts w in
    let same : fresh_at w.number w.start w.length w.state ≡ w = ap (λ m. record w { mode = m }) (sym is) in
    let yes : nat_lt w.state.steps w.length ≡ true = grind (arith, nat_tests) in
    let begins : (if nat_lt w.state.steps w.length then coins_decided j w else record w { mode = Over }) ≡ coins_decided j w = rw yes refl in
    ap (coins_decided j) same ∙ sym (ap (decided_from j w) is ∙ begins)
