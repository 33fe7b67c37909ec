-- What a walker comes to by its darts is possible where it stands, and within its bounds.
use Rattle.std.proofs.Common.{◌≡◌, ℕ, ◌+◌, ◌<◌, ◌≤◌, Bool, true, false, List, length, refl, ap, sym, subst, ◌∙◌, arith}
use Rattle.std.specs.Prelude.{◌==◌, if◌then◌else◌}
use Rattle.std.proofs.lemmas.Bool.Decides.{nat_tests}
use Rattle.walk_model.specs.declared.graph.Edge.{Edge}
use Rattle.walk_model.specs.declared.states.State.{State}
use Rattle.walk_model.specs.Cuts.{owner}
use Rattle.walk_model.specs.Letters.{Journey}
use Rattle.csr_store.specs.RowGraph.{RowGraph}
use Rattle.vertex_partition.specs.PartViews.{PartView, Owns, IsPartOf}
use Rattle.traveller.specs.declared.modes.Mode.{Mode}
use Rattle.traveller.specs.declared.modes.Mode.TheVariants.{Fresh, Darts, Asked, AskedRow, Chosen, Over}
use Rattle.traveller.specs.declared.runs.Run.{Run}
use Rattle.traveller.specs.Bounds.{IsModeBounded}
use Rattle.traveller.specs.Decided.{IsDecided}
use Rattle.traveller.specs.Deciding.{decided}
use Rattle.traveller.specs.Locals.{IsInRow, row_mode}
use Rattle.traveller.specs.Standing.{CanGo, IsPossible, journey_on, own_graph}
use Rattle.traveller.specs.Ticks.{columns, row_columns, choice_columns, turn_columns}
use Rattle.traveller.specs.Turns.{row_at, board_at, asker_at, throws, choice_mode}
use Rattle.traveller.specs.Walkers.{Walker}
use Rattle.traveller.proofs.ThrownLemmas.{IsThrown, throws-thrown}

-- a part has the rows of the graph of its own edges
pub own-part : (p : PartView) → IsPartOf (own_graph p) p
own-part p = record { vertices = refl; rows = λ v owns. refl; has = λ t x owns. refl }

-- an edge that is chosen, with a later bound
pub inside-more : (count more most next : ℕ) (m : Mode) → count ≡ more → most ≤ next → IsInRow count most m → IsInRow more next m
inside-more count more most next Fresh same low h = tt
inside-more count more most next (Darts left place) same low h = tt
inside-more count more most next (Asked left place question) same low h = tt
inside-more count more most next (AskedRow place question) same low h = tt
inside-more count more most next (Chosen edge place) same low h = let one = h.0 in let two = h.1 in (omega (arith, one, same), omega (arith, two, low))
inside-more count more most next Over same low h = tt

-- what darts come to from a row that isn't empty
thrown-decided : (j : Journey) (s : State) (n place most : ℕ) (m : Mode) → 0 < length (row_at j s) → place + n ≤ most
    → IsThrown n (asker_at j s) (board_at j s) j.course.words place m → IsInRow (length (row_at j s)) (place + n + 64) m
    → IsDecided j s n most m
thrown-decided j s n place most Fresh some low thrown inside = absurd thrown
thrown-decided j s n place most (Darts left next) some low thrown inside = absurd thrown
thrown-decided j s n place most (Asked left next question) some low thrown inside =
    let at = thrown.1 in (some, thrown.0, omega (arith, at, low), thrown.2)
thrown-decided j s n place most (AskedRow next question) some low thrown inside =
    let at = thrown.0 in (some, omega (arith, at, low), thrown.1)
thrown-decided j s n place most (Chosen edge next) some low thrown inside =
    let at = inside.1 in (inside.0, omega (arith, at, low))
thrown-decided j s n place most Over some low thrown inside = tt

-- what the choice from a row comes to
pub row-decided : (j : Journey) (s : State) (n place most : ℕ) (words : ℕ → ℕ) (m : Mode) → j.course.words ≡ words → place + n ≤ most
    → row_mode n (asker_at j s) (board_at j s) (row_at j s) words place ≡ m
    → IsInRow (length (row_at j s)) (place + n + 64) m → IsDecided j s n most m
row-decided j s n place most words m own low comes inside =
    by (length (row_at j s) == 0) refl (ap (λ ws. row_mode n (asker_at j s) (board_at j s) (row_at j s) ws place) own ∙ comes)
  where
    by : (b : Bool) → (length (row_at j s) == 0) ≡ b
        → (if b then Over else throws n (asker_at j s) (board_at j s) j.course.words place) ≡ m → IsDecided j s n most m
    by true e is = subst (IsDecided j s n most) is tt
    by false e is =
        let some : 0 < length (row_at j s) = grind (arith, nat_tests) in
        thrown-decided j s n place most m some low
        (subst (IsThrown n (asker_at j s) (board_at j s) j.course.words place) is (throws-thrown n (asker_at j s) (board_at j s) j.course.words place))
        inside

-- it is possible where the walker stands
pub decided-possible : (run : Run) (p : PartView) (w : Walker) (n most : ℕ) (m : Mode) → n ≤ run.plan.retries
    → IsDecided (journey_on (own_graph p) run p.cuts w) w.state n most m → IsPossible run p w m
decided-possible run p w n most Fresh few h = absurd h
decided-possible run p w n most (Darts left place) few h = absurd h
decided-possible run p w n most (Asked left place question) few h = let low = h.1 in (h.0, omega (arith, low, few), h.3)
decided-possible run p w n most (AskedRow place question) few h = (h.0, h.2)
decided-possible run p w n most (Chosen edge place) few h = h.0
decided-possible run p w n most Over few h = tt

-- within the bounds of a walker that has a step left
pub decided-bounded : (j : Journey) (w : Walker) (n most : ℕ) (m : Mode) → w.state.steps < w.length → n ≤ 1000 → most ≤ w.state.place + 1128
    → IsDecided j w.state n most m → IsModeBounded w m
decided-bounded j w n most Fresh more few low h = absurd h
decided-bounded j w n most (Darts left place) more few low h = absurd h
decided-bounded j w n most (Asked left place question) more few low h =
    let one = h.1 in let two = h.2 in (more, omega (arith, one, few), omega (arith, two, low))
decided-bounded j w n most (AskedRow place question) more few low h = let two = h.1 in (more, omega (arith, two, low))
decided-bounded j w n most (Chosen edge place) more few low h = let two = h.1 in (more, omega (arith, two, low))
decided-bounded j w n most Over more few low h = tt

-- and lets it go along the edge that it has chosen
pub decided-goes : (run : Run) (p : PartView) (w : Walker) (n most : ℕ) (m : Mode) → owner p.cuts w.state.at ≡ p.part
    → IsDecided (journey_on (own_graph p) run p.cuts w) w.state n most m → CanGo p w m
decided-goes run p w n most Fresh own h = tt
decided-goes run p w n most (Darts left place) own h = tt
decided-goes run p w n most (Asked left place question) own h = tt
decided-goes run p w n most (AskedRow place question) own h = tt
decided-goes run p w n most (Chosen edge place) own h = (own, h.0)
decided-goes run p w n most Over own h = tt

-- all darts of a step make its choice
pub choice-from : (j : Journey) (s : State) (n place : ℕ) (words : ℕ → ℕ) (m : Mode) → n ≡ j.course.plan.retries → j.course.words ≡ words
    → row_mode n (asker_at j s) (board_at j s) (row_at j s) words place ≡ m → m ≡ choice_mode j s place
choice-from j s n place words m all own comes =
    sym comes ∙ ap (λ k. row_mode k (asker_at j s) (board_at j s) (row_at j s) words place) all
    ∙ ap (λ ws. row_mode j.course.plan.retries (asker_at j s) (board_at j s) (row_at j s) ws place) (sym own)

pub columns-from : (j : Journey) (s : State) (n place before after : ℕ) (words : ℕ → ℕ) → n ≡ j.course.plan.retries → j.course.words ≡ words
    → after ≡ before + row_columns n (asker_at j s) (board_at j s) (row_at j s) words place → after ≡ before + choice_columns j s place
columns-from j s n place before after words all own read =
    read ∙ ap (λ k. before + row_columns k (asker_at j s) (board_at j s) (row_at j s) words place) all
    ∙ ap (λ ws. before + row_columns j.course.plan.retries (asker_at j s) (board_at j s) (row_at j s) ws place) (sym own)

-- darts that a walker goes on with
pub darts-decided : (g : RowGraph) (run : Run) (p : PartView) (w : Walker) (left place at : ℕ) (words : ℕ → ℕ) (m : Mode) → IsPartOf g p
    → Owns p w.state.at → w.mode ≡ Darts left place → IsPossible run p w w.mode
    → (let j = journey_on g run p.cuts w in
    j.course.words ≡ words → at ≡ place → row_mode left (asker_at j w.state) (board_at j w.state) (row_at j w.state) words at ≡ m
    → record w { mode = m } ≡ decided j w)
darts-decided g run p w left place at words m of here is possible own there comes =
    let j : Journey = journey_on g run p.cuts w in
    let can : IsPossible run p w (Darts left place) = subst (IsPossible run p w) is possible in
    let some : 0 < length (row_at j w.state) = subst (λ (out : List Edge). 0 < length out) (of.rows w.state.at here) can.0 in
    let full : (length (row_at j w.state) == 0) ≡ false = grind (arith, nat_tests) in
    let thrown : throws left (asker_at j w.state) (board_at j w.state) words at ≡ m = rw full at comes in
    rw is
    (ap (λ c. record w { mode = c }) (sym thrown ∙ ap (throws left (asker_at j w.state) (board_at j w.state) words) there
    ∙ ap (λ ws. throws left (asker_at j w.state) (board_at j w.state) ws place) (sym own)))

pub darts-columns : (g : RowGraph) (run : Run) (p : PartView) (w : Walker) (left place at before after : ℕ) (words : ℕ → ℕ) → IsPartOf g p
    → Owns p w.state.at → w.mode ≡ Darts left place → IsPossible run p w w.mode
    → (let j = journey_on g run p.cuts w in
    j.course.words ≡ words → at ≡ place
    → after ≡ before + row_columns left (asker_at j w.state) (board_at j w.state) (row_at j w.state) words at
    → after ≡ before + turn_columns j w w.mode)
darts-columns g run p w left place at before after words of here is possible own there read =
    let j : Journey = journey_on g run p.cuts w in
    let can : IsPossible run p w (Darts left place) = subst (IsPossible run p w) is possible in
    let some : 0 < length (row_at j w.state) = subst (λ (out : List Edge). 0 < length out) (of.rows w.state.at here) can.0 in
    let full : (length (row_at j w.state) == 0) ≡ false = grind (arith, nat_tests) in
    let same : row_columns left (asker_at j w.state) (board_at j w.state) (row_at j w.state) words at ≡ turn_columns j w (Darts left place) =
    rw full (ap (columns left (asker_at j w.state) (board_at j w.state) words) there
    ∙ ap (λ ws. columns left (asker_at j w.state) (board_at j w.state) ws place) (sym own)) in
    read ∙ ap (λ k. before + k) (same ∙ ap (turn_columns j w) (sym is))
