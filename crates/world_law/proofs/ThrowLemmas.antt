-- What darts come to, what letters they cost, and where they lead.
use Rattle.std.proofs.Common.{◌≡◌, ℕ, zero, suc, ◌+◌, ◌-◌, Bool, true, false, List, [], ◌++◌, refl, ap, sym, ◌∙◌, arith, None, Some, below_more}
use Rattle.std.specs.Prelude.{Option, option_map, option_and_then, ◌==◌, if◌then◌else◌}
use Rattle.std.proofs.lemmas.List.{append_assoc}
use Rattle.walk_model.specs.declared.graph.Edge.{Edge}
use Rattle.walk_model.specs.declared.messages.Letter.{Letter}
use Rattle.walk_model.specs.declared.messages.Question.{Question}
use Rattle.walk_model.specs.declared.messages.Question.TheVariants as question
use Rattle.walk_model.specs.declared.states.State.{State}
use Rattle.walk_model.specs.Course.{Course}
use Rattle.walk_model.specs.Factor.{common_factor, far_factor}
use Rattle.walk_model.specs.Dart.{Board, area, hit, darts, scanned, or_next}
use Rattle.walk_model.specs.Words.{fold_word}
use Rattle.walk_model.specs.Walk.{moved_along, next_state, chosen}
use Rattle.walk_model.specs.Letters.{Journey, Asker, asked, needed_at, edge_letters, scan_letters, unless_hit, dart_letters, letters_then, letters_after}
use Rattle.traveller.specs.declared.modes.Mode.{Mode}
use Rattle.traveller.specs.declared.modes.Mode.TheVariants.{Fresh, Darts, Asked, AskedRow, Chosen, Over}
use Rattle.traveller.specs.Turns.{restart_coin, row_at, board_at, asker_at, edge_question, row_question, scan_mode, dart_mode, throws}
use Rattle.traveller.specs.Replies.{found_in}
use Rattle.world_law.specs.Items.{ask_what, reply_what}
use Rattle.world_law.specs.Truth.{next_within, Chooses, Came, Passes}
use Rattle.world_law.specs.LettersLeft.{throw_letters, asks_left, leads_to, letters_within}
use Rattle.world_law.proofs.DartLemmas.{darts-after}

-- the letters of a question and its reply
abbrev pub pair_of : List Edge → Option Asker → Question → List Letter
pair_of edges None q = []
pair_of edges (Some a) q = asked a (ask_what q) (reply_what q (found_in edges q))

-- those of the question of a mode
abbrev pub mode_pair : List Edge → Option Asker → Mode → List Letter
mode_pair edges r (Asked left place q) = pair_of edges r q
mode_pair edges r (AskedRow place q) = pair_of edges r q
mode_pair edges r _ = []

-- those that follow the reply before the step is decided
abbrev pub mode_rest : Course → Option Asker → Board → Mode → List Letter
mode_rest c r b (Asked left place q) = unless_hit (hit b (c.words place)) (throw_letters left c r b (place + 1))
mode_rest c r b _ = []

unless_none : (o : Option ℕ) → [] ≡ unless_hit o []
unless_none None = refl
unless_none (Some e) = refl

-- where no other part must be asked there are no letters
no_asker : (c : Course) (b : Board) (m : Mode) → [] ≡ mode_pair c.edges None m ++ mode_rest c None b m
no_asker c b (Asked left place q) = unless_none (hit b (c.words place))
no_asker c b (AskedRow place q) = refl
no_asker c b Fresh = refl
no_asker c b (Darts left place) = refl
no_asker c b (Chosen edge place) = refl
no_asker c b Over = refl

scan_cases : (c : Course) (a : Asker) (b : Board) (place : ℕ) (same : Bool) (taken : Option (ℕ × ℕ))
    → (if same then [] else asked a (ask_what (question.Row a.before)) (reply_what (question.Row a.before) (found_in c.edges (question.Row a.before))))
    ≡ mode_pair c.edges (Some a) (scan_mode (if same then None else Some (question.Row a.before)) taken place)
    ++ mode_rest c (Some a) b (scan_mode (if same then None else Some (question.Row a.before)) taken place)
scan_cases c a b place true None = refl
scan_cases c a b place true (Some t) = refl
scan_cases c a b place false taken = refl

-- the letters of some darts are those of the question that they come to, and those that follow its reply
pub throw_letters-throws : (left : ℕ) (c : Course) (r : Option Asker) (b : Board) (place : ℕ)
    → throw_letters left c r b place
    ≡ mode_pair c.edges r (throws left r b c.words place) ++ mode_rest c r b (throws left r b c.words place)
unfolding throws dart_letters scan_letters
throw_letters-throws left c None b place = no_asker c b (throws left None b c.words place)
throw_letters-throws zero c (Some a) b place =
    scan_cases c a b place (common_factor a.p a.q == far_factor a.p a.q) (scanned b c.words place)
throw_letters-throws (suc left) c (Some a) b place =
    need_cases c a b place left (throws left (Some a) b c.words (place + 1))
    (option_and_then (needed_at a b) (fold_word (area b) (c.words place)))
    (throw_letters-throws left c (Some a) b (place + 1))
  where
    hit_cases : (c : Course) (a : Asker) (b : Board) (place left : ℕ) (later : Mode) (h : Option ℕ)
        → dart_letters left c a b (place + 1) ≡ mode_pair c.edges (Some a) later ++ mode_rest c (Some a) b later
        → unless_hit h (dart_letters left c a b (place + 1))
        ≡ mode_pair c.edges (Some a) (dart_mode None h left place later) ++ mode_rest c (Some a) b (dart_mode None h left place later)
    hit_cases c a b place left later None ih = ih
    hit_cases c a b place left later (Some e) ih = refl

    need_cases : (c : Course) (a : Asker) (b : Board) (place left : ℕ) (later : Mode) (o : Option ℕ)
        → dart_letters left c a b (place + 1) ≡ mode_pair c.edges (Some a) later ++ mode_rest c (Some a) b later
        → edge_letters c.edges a o ++ unless_hit (hit b (c.words place)) (dart_letters left c a b (place + 1))
        ≡ mode_pair c.edges (Some a) (dart_mode (option_map (question.Edge a.before) o) (hit b (c.words place)) left place later)
        ++ mode_rest c (Some a) b (dart_mode (option_map (question.Edge a.before) o) (hit b (c.words place)) left place later)
    need_cases c a b place left later None ih = hit_cases c a b place left later (hit b (c.words place)) ih
    need_cases c a b place left later (Some x) ih = refl

-- a mode that isn't the beginning of a step, nor of darts
abbrev pub IsForward : Mode → Type 0
IsForward Fresh = ⊥
IsForward (Darts left place) = ⊥
IsForward _ = Unit {0}

-- from one mode of a step another one was reached by the walker alone: the step passes it too, and the
-- letters between are those of its question
pub record Reaches (j : Journey) (most : ℕ) (s : State) (from to : Mode) : Type 0 where
  pub passes : Passes j most s to
  pub forward : IsForward to
  pub letters : letters_within j most s from ≡ mode_pair j.course.edges (asker_at j s) to ++ letters_within j most s to

-- the state that a step leads to is that of its darts
pub next_within-chooses : (j : Journey) (most : ℕ) (s : State) → Chooses j most s
    → next_within j most s
    ≡ option_and_then (moved_along s (row_at j s)) (darts j.course.plan.retries (board_at j s) j.course.words (restart_coin j s).1)
unfolding next_state chosen
next_within-chooses j most s h = rw (h.going, h.stays, h.onward, h.some) refl

pub darts-came : (j : Journey) (most : ℕ) (s : State) (left place : ℕ) (h : Came j most s left place)
    → darts j.course.plan.retries (board_at j s) j.course.words (restart_coin j s).1 ≡ darts left (board_at j s) j.course.words place
darts-came j most s left place h =
    darts-after h.thrown left (restart_coin j s).1 j.course.plan.retries place (board_at j s) j.course.words h.vain (sym h.all) h.place

-- one dart more in vain
pub came-next : (j : Journey) (most : ℕ) (s : State) (left place : ℕ) → Came j most s (suc left) place
    → hit (board_at j s) (j.course.words place) ≡ None → Came j most s left (place + 1)
came-next j most s left place h e = record {
  chooses = h.chooses;
  thrown = h.thrown + 1;
  all = omega (arith, h.all);
  place = omega (arith, h.place);
  vain = below_more (λ i. hit (board_at j s) (j.course.words ((restart_coin j s).1 + i)) ≡ None) h.thrown h.vain
      (let at = h.place in rw at at e);
}

scan-passes : (j : Journey) (most : ℕ) (s : State) (place : ℕ) (needed : Option Question) (taken : Option (ℕ × ℕ))
    → row_question (asker_at j s) ≡ needed → scanned (board_at j s) j.course.words place ≡ taken
    → Came j most s 0 place → Passes j most s (scan_mode needed taken place)
unfolding darts
scan-passes j most s place None None n e h =
    next_within-chooses j most s h.chooses
    ∙ ap (option_and_then (moved_along s (row_at j s))) (darts-came j most s 0 place h ∙ e)
scan-passes j most s place None (Some t) n e h = record { chooses = h.chooses; taken = darts-came j most s 0 place h ∙ e }
scan-passes j most s place (Some q) taken n e h = record { came = h; needed = n }

dart-passes : (j : Journey) (most : ℕ) (s : State) (left place : ℕ) (later : Mode) (needed : Option Question) (taken : Option ℕ)
    → edge_question (asker_at j s) (board_at j s) (j.course.words place) ≡ needed
    → hit (board_at j s) (j.course.words place) ≡ taken
    → Came j most s (suc left) place → (Came j most s left (place + 1) → Passes j most s later)
    → Passes j most s (dart_mode needed taken left place later)
unfolding darts
dart-passes j most s left place later (Some q) taken n e h go = record { came = h; needed = n }
dart-passes j most s left place later None (Some edge) n e h go = record {
  chooses = h.chooses;
  taken = darts-came j most s (suc left) place h
      ∙ ap (λ o. or_next o place (darts left (board_at j s) j.course.words (place + 1))) e;
}
dart-passes j most s left place later None None n e h go = go (came-next j most s left place h e)

-- what darts come to is passed by the step
pub throws-passes : (left : ℕ) (j : Journey) (most : ℕ) (s : State) (place : ℕ) → Came j most s left place
    → Passes j most s (throws left (asker_at j s) (board_at j s) j.course.words place)
unfolding throws
throws-passes zero j most s place h =
    scan-passes j most s place (row_question (asker_at j s)) (scanned (board_at j s) j.course.words place) refl refl h
throws-passes (suc left) j most s place h =
    dart-passes j most s left place (throws left (asker_at j s) (board_at j s) j.course.words (place + 1))
    (edge_question (asker_at j s) (board_at j s) (j.course.words place)) (hit (board_at j s) (j.course.words place))
    refl refl h (throws-passes left j most s (place + 1))

scan-forward : (needed : Option Question) (taken : Option (ℕ × ℕ)) (place : ℕ) → IsForward (scan_mode needed taken place)
scan-forward None None place = tt
scan-forward None (Some t) place = tt
scan-forward (Some q) taken place = tt

dart-forward : (needed : Option Question) (taken : Option ℕ) (left place : ℕ) (later : Mode) → IsForward later
    → IsForward (dart_mode needed taken left place later)
dart-forward (Some q) taken left place later h = tt
dart-forward None (Some edge) left place later h = tt
dart-forward None None left place later h = h

pub throws-forward : (left : ℕ) (r : Option Asker) (b : Board) (words : ℕ → ℕ) (place : ℕ)
    → IsForward (throws left r b words place)
unfolding throws
throws-forward zero r b words place = scan-forward (row_question r) (scanned b words place) place
throws-forward (suc left) r b words place =
    dart-forward (edge_question r b (words place)) (hit b (words place)) left place _
    (throws-forward left r b words (place + 1))

scan-leads : (j : Journey) (most : ℕ) (s : State) (place : ℕ) (needed : Option Question) (taken : Option (ℕ × ℕ))
    → scanned (board_at j s) j.course.words place ≡ taken
    → option_and_then (moved_along s (row_at j s)) taken ≡ leads_to j most s (scan_mode needed taken place)
scan-leads j most s place None None e = refl
scan-leads j most s place None (Some t) e = refl
scan-leads j most s place (Some q) taken e = ap (option_and_then (moved_along s (row_at j s))) (sym e)

dart-leads : (j : Journey) (most : ℕ) (s : State) (left place : ℕ) (later : Mode) (needed : Option Question) (taken : Option ℕ)
    → hit (board_at j s) (j.course.words place) ≡ taken
    → option_and_then (moved_along s (row_at j s)) (darts left (board_at j s) j.course.words (place + 1)) ≡ leads_to j most s later
    → option_and_then (moved_along s (row_at j s)) (or_next taken place (darts left (board_at j s) j.course.words (place + 1)))
    ≡ leads_to j most s (dart_mode needed taken left place later)
unfolding darts
dart-leads j most s left place later (Some q) taken e h =
    ap (λ o. option_and_then (moved_along s (row_at j s)) (or_next o place (darts left (board_at j s) j.course.words (place + 1)))) (sym e)
dart-leads j most s left place later None (Some edge) e h = refl
dart-leads j most s left place later None None e h = h

-- darts lead where what they come to leads
pub throws-leads : (left : ℕ) (j : Journey) (most : ℕ) (s : State) (place : ℕ)
    → option_and_then (moved_along s (row_at j s)) (darts left (board_at j s) j.course.words place)
    ≡ leads_to j most s (throws left (asker_at j s) (board_at j s) j.course.words place)
unfolding throws darts
throws-leads zero j most s place =
    scan-leads j most s place (row_question (asker_at j s)) (scanned (board_at j s) j.course.words place) refl
throws-leads (suc left) j most s place =
    dart-leads j most s left place (throws left (asker_at j s) (board_at j s) j.course.words (place + 1))
    (edge_question (asker_at j s) (board_at j s) (j.course.words place)) (hit (board_at j s) (j.course.words place))
    refl (throws-leads left j most s (place + 1))

-- after a forward mode the letters before the decision are those after its question's reply
forward-asks : (j : Journey) (most : ℕ) (s : State) (m : Mode) → IsForward m
    → mode_rest j.course (asker_at j s) (board_at j s) m ≡ asks_left j most s m
forward-asks j most s Fresh h = absurd h
forward-asks j most s (Darts left place) h = absurd h
forward-asks j most s (Asked left place q) h = refl
forward-asks j most s (AskedRow place q) h = refl
forward-asks j most s (Chosen edge place) h = refl
forward-asks j most s Over h = refl

-- the letters of some darts, and of what the step leads to, by what the darts come to
pub throws-letters : (left : ℕ) (j : Journey) (most : ℕ) (s : State) (place : ℕ)
    → throw_letters left j.course (asker_at j s) (board_at j s) place
    ++ letters_then j s (option_and_then (moved_along s (row_at j s)) (darts left (board_at j s) j.course.words place)) (letters_after (most - suc s.steps) j)
    ≡ mode_pair j.course.edges (asker_at j s) (throws left (asker_at j s) (board_at j s) j.course.words place)
    ++ letters_within j most s (throws left (asker_at j s) (board_at j s) j.course.words place)
throws-letters left j most s place =
    let m = throws left (asker_at j s) (board_at j s) j.course.words place in
    let pair = mode_pair j.course.edges (asker_at j s) m in
    let rest = mode_rest j.course (asker_at j s) (board_at j s) m in
    let onward : Option State → List Letter = λ o. letters_then j s o (letters_after (most - suc s.steps) j) in
    ap (λ l. l ++ onward (option_and_then (moved_along s (row_at j s)) (darts left (board_at j s) j.course.words place)))
    (throw_letters-throws left j.course (asker_at j s) (board_at j s) place)
    ∙ ap (λ o. (pair ++ rest) ++ onward o) (throws-leads left j most s place)
    ∙ append_assoc pair rest (onward (leads_to j most s m))
    ∙ ap (λ l. pair ++ (l ++ onward (leads_to j most s m)))
    (forward-asks j most s m (throws-forward left (asker_at j s) (board_at j s) j.course.words place))

pub reaches-throws : (left : ℕ) (j : Journey) (most : ℕ) (s : State) (place : ℕ) → Came j most s left place
    → Reaches j most s (Darts left place) (throws left (asker_at j s) (board_at j s) j.course.words place)
reaches-throws left j most s place h = record {
  passes = throws-passes left j most s place h;
  forward = throws-forward left (asker_at j s) (board_at j s) j.course.words place;
  letters = throws-letters left j most s place;
}
