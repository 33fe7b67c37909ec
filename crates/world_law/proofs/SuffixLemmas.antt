-- The letters that are still to come from a true walker on are the last of its walk's letters.
use Rattle.std.proofs.Common.{◌≡◌, ℕ, zero, suc, ◌+◌, ◌-◌, ◌<◌, false, List, [], ◌∷◌, ◌++◌, refl, ap, sym, ◌∙◌, arith, None, Some}
use Rattle.std.specs.Prelude.{Option, option_and_then, ◌==◌, if◌then◌else◌}
use Rattle.std.proofs.lemmas.List.{append-nil, append_assoc}
use Rattle.std.proofs.lemmas.Option.{none-some, same_Some, option_and_then_some}
use Rattle.walk_model.specs.declared.graph.Edge.{Edge}
use Rattle.walk_model.specs.declared.messages.Letter.{Letter}
use Rattle.walk_model.specs.declared.messages.Question.{Question}
use Rattle.walk_model.specs.declared.states.State.{State}
use Rattle.walk_model.specs.Course.{Course}
use Rattle.walk_model.specs.Words.{fold_word}
use Rattle.walk_model.specs.Dart.{Board, area, hit, darts, scanned}
use Rattle.walk_model.specs.Walk.{first_state, next_state, moved_along}
use Rattle.walk_model.specs.Letters.{Journey, Asker, needed_at, edge_letters, unless_hit, dart_letters, ask_letters, move_letters, letters_then, letters_after}
use Rattle.traveller.specs.declared.modes.Mode.{Mode}
use Rattle.traveller.specs.declared.modes.Mode.TheVariants.{Fresh, Darts, Asked, AskedRow, Chosen, Over}
use Rattle.traveller.specs.PartedRuns.{PartedRun, journey_from, journey_in, letters_in, state_after}
use Rattle.traveller.specs.Walkers.{Walker, question_of, asked_vertex, ask_with}
use Rattle.traveller.specs.Turns.{restart_coin, row_at, board_at, asker_at, edge_question, row_question, scan_mode, dart_mode, throws}
use Rattle.traveller.specs.Replies.{reply_to}
use Rattle.world_law.specs.Items.{Travels, Asks, Replies, letter_of}
use Rattle.world_law.specs.Truth.{next_within, Chooses, Came, Passes, IsTrueTo}
use Rattle.world_law.specs.LettersLeft.{throw_letters, letters_within, letters_from}
use Rattle.world_law.specs.Soundness.{IsOnWay}
use Rattle.world_law.proofs.ThrowLemmas.{pair_of, mode_pair, next_within-chooses, darts-came, throws-letters}
use Rattle.world_law.proofs.TurnLemmas.{ask_letters-choice, choice_letters-by}
use Rattle.world_law.proofs.TruthLemmas.{letters_within-fresh}
use Rattle.world_law.proofs.HearLemmas.{IsAsker, asker_at-is, edge_question-is, row_question-is}

-- a list ends with another one
abbrev pub EndsWith : List Letter → List Letter → Type 0
EndsWith xs ys = (front : List Letter) × (xs ≡ front ++ ys)

ends-self : (xs ys : List Letter) → xs ≡ ys → EndsWith xs ys
ends-self xs ys e = ([], e)

ends-nothing : (xs : List Letter) → EndsWith xs []
ends-nothing xs = (xs, sym (append-nil xs))

ends-after : (xs ys zs : List Letter) → xs ≡ ys ++ zs → EndsWith xs zs
ends-after xs ys zs e = (ys, e)

ends-trans : (xs ys zs : List Letter) → EndsWith xs ys → EndsWith ys zs → EndsWith xs zs
ends-trans xs ys zs h k =
    (h.0 ++ k.0, h.1 ∙ ap (λ l. h.0 ++ l) k.1 ∙ sym (append_assoc h.0 k.0 zs))

-- the letters after a step
step-ends : (m : ℕ) (j : Journey) (s t : State) → next_state j.course s ≡ Some t
    → EndsWith (letters_after (suc m) j s) (move_letters j s t ++ letters_after m j t)
unfolding letters_after
step-ends m j s t e = (ask_letters j s, ap (λ o. ask_letters j s ++ letters_then j s o (letters_after m j)) e)

-- the letters of a walk end with those from each of its states on
steps-end : (n m most : ℕ) (j : Journey) (s : State) → most ≡ n + m → state_after n j.course ≡ Some s
    → EndsWith (letters_after most j (first_state j.course.start)) (letters_after m j s)
unfolding state_after
steps-end zero m most j s e h =
    let same : most ≡ m = omega arith in
    let first = same_Some (first_state j.course.start) s h in
    ends-self _ _ (ap (λ n. letters_after n j (first_state j.course.start)) same ∙ ap (letters_after m j) first)
steps-end (suc n) m most j s e h =
    option_and_then_some (next_state j.course) (state_after n j.course) s h
    (λ before h1 h2.
    let all : most ≡ n + suc m = omega arith in
    ends-trans _ (letters_after (suc m) j before) (letters_after m j s)
    (steps-end n (suc m) most j before all h1)
    (ends-trans _ (move_letters j before s ++ letters_after m j s) (letters_after m j s)
    (step-ends m j before s h2) (ends-after _ (move_letters j before s) (letters_after m j s) refl)))

-- the letters of darts from one on end with those after it, where all between were in vain
darts-end : (thrown left first n k : ℕ) (c : Course) (a : Asker) (b : Board)
    → ((i : ℕ) → i < thrown → hit b (c.words (first + i)) ≡ None)
    → n ≡ thrown + left → k ≡ first + thrown → EndsWith (dart_letters n c a b first) (dart_letters left c a b k)
unfolding dart_letters
darts-end zero left first n k c a b vain e f =
    let count : n ≡ left = omega arith in
    let place : first ≡ k = omega arith in
    ends-self _ _ (ap (λ x. dart_letters x c a b first) count ∙ ap (dart_letters left c a b) place)
darts-end (suc t) left first n k c a b vain e f =
    let count : n ≡ suc (t + left) = omega arith in
    let none : first + 0 ≡ first = omega arith in
    let raw = vain 0 (omega arith) in
    let here : hit b (c.words first) ≡ None = rw none at raw in
    let asks = edge_letters c.edges a (option_and_then (needed_at a b) (fold_word (area b) (c.words first))) in
    ends-trans _ (dart_letters (t + left) c a b (first + 1)) (dart_letters left c a b k)
    (asks, ap (λ x. dart_letters x c a b first) count ∙ ap (λ o. asks ++ unless_hit o (dart_letters (t + left) c a b (first + 1))) here)
    (darts-end t left (first + 1) (t + left) k c a b
    (λ i h.
    let next : first + suc i ≡ first + 1 + i = omega arith in
    let later = vain (suc i) (omega arith) in
    rw next at later)
    refl (omega arith))

throws-end : (thrown left first n k : ℕ) (c : Course) (r : Option Asker) (b : Board)
    → ((i : ℕ) → i < thrown → hit b (c.words (first + i)) ≡ None)
    → n ≡ thrown + left → k ≡ first + thrown → EndsWith (throw_letters n c r b first) (throw_letters left c r b k)
throws-end thrown left first n k c None b vain e f = ([], refl)
throws-end thrown left first n k c (Some a) b vain e f = darts-end thrown left first n k c a b vain e f

-- the letters of a step from its darts on, and those of all steps after it
abbrev pub letters_on : Journey → ℕ → State → ℕ → ℕ → List Letter
letters_on j most s left place =
    throw_letters left j.course (asker_at j s) (board_at j s) place
    ++ letters_then j s (option_and_then (moved_along s (row_at j s)) (darts left (board_at j s) j.course.words place)) (letters_after (most - suc s.steps) j)

-- a step that chooses an edge has the letters of its darts
choose-letters : (j : Journey) (most : ℕ) (s : State) → Chooses j most s
    → letters_within j most s Fresh ≡ letters_on j most s j.course.plan.retries (restart_coin j s).1
choose-letters j most s h =
    let after = λ (o : Option State). letters_then j s o (letters_after (most - suc s.steps) j) in
    let asks = ask_letters-choice j s h.stays h.onward
    ∙ choice_letters-by j s (restart_coin j s).1 j.course.plan.rule s.previous h.some in
    ap (λ b. (if b then ask_letters j s else []) ++ after (next_within j most s)) h.going
    ∙ ap (λ l. l ++ after (next_within j most s)) asks
    ∙ ap (λ o. throw_letters j.course.plan.retries j.course (asker_at j s) (board_at j s) (restart_coin j s).1 ++ after o) (next_within-chooses j most s h)

came-end : (j : Journey) (most : ℕ) (s : State) (left place : ℕ) → Came j most s left place
    → EndsWith (letters_within j most s Fresh) (letters_on j most s left place)
came-end j most s left place h =
    let first = (restart_coin j s).1 in
    let b = board_at j s in
    let after = λ (d : Option (ℕ × ℕ)). letters_then j s (option_and_then (moved_along s (row_at j s)) d) (letters_after (most - suc s.steps) j) in
    let thrown = throws-end h.thrown left first j.course.plan.retries place j.course (asker_at j s) b h.vain (sym h.all) h.place in
    let rest = throw_letters left j.course (asker_at j s) b place in (
      thrown.0,
      choose-letters j most s h.chooses
          ∙ ap (λ d. throw_letters j.course.plan.retries j.course (asker_at j s) b first ++ after d) (darts-came j most s left place h)
          ∙ ap (λ l. l ++ after (darts left b j.course.words place)) thrown.1
          ∙ append_assoc thrown.0 rest (after (darts left b j.course.words place)),
    )

-- the letters of a step end with the question of a mode that it passes, its reply, and what follows
passes-end : (j : Journey) (most : ℕ) (s : State) (m : Mode) → Passes j most s m
    → EndsWith (letters_within j most s Fresh) (mode_pair j.course.edges (asker_at j s) m ++ letters_within j most s m)
unfolding throws
passes-end j most s Fresh p = ends-self _ _ refl
passes-end j most s (Darts left place) p = came-end j most s left place p
passes-end j most s (Asked left place q) p =
    let asked = ap (λ o. dart_mode o (hit (board_at j s) (j.course.words place)) left place
    (throws left (asker_at j s) (board_at j s) j.course.words (place + 1))) p.needed in
    let all = throws-letters (suc left) j most s place in
    ends-trans _ (letters_on j most s (suc left) place) _ (came-end j most s (suc left) place p.came)
    (ends-self _ _ (all ∙ ap (λ m. mode_pair j.course.edges (asker_at j s) m ++ letters_within j most s m) asked))
passes-end j most s (AskedRow place q) p =
    let asked = ap (λ o. scan_mode o (scanned (board_at j s) j.course.words place) place) p.needed in
    let all = throws-letters 0 j most s place in
    ends-trans _ (letters_on j most s 0 place) _ (came-end j most s 0 place p.came)
    (ends-self _ _ (all ∙ ap (λ m. mode_pair j.course.edges (asker_at j s) m ++ letters_within j most s m) asked))
passes-end j most s (Chosen edge place) p =
    let after = λ (d : Option (ℕ × ℕ)). letters_then j s (option_and_then (moved_along s (row_at j s)) d) (letters_after (most - suc s.steps) j) in
    let asks = throw_letters j.course.plan.retries j.course (asker_at j s) (board_at j s) (restart_coin j s).1 in
    (asks, choose-letters j most s p.chooses ∙ ap (λ d. asks ++ after d) p.taken)
passes-end j most s Over p = ends-nothing _

-- the letters of a walk end with those from a true walker on, its question and the reply among them
pub true-ends : (g : PartedRun) (v : Walker) → IsTrueTo g v
    → EndsWith (letters_in g v.number)
    (mode_pair g.edges (asker_at (journey_from g v.number v.start) v.state) v.mode ++ letters_from g v)
unfolding letters_from
true-ends g v h =
    let j = journey_from g v.number v.start in
    let whole : v.length ≡ v.state.steps + (v.length - v.state.steps) = (let within = h.within in omega arith) in
    let steps = steps-end v.state.steps (v.length - v.state.steps) v.length j v.state whole h.state in
    let fresh = letters_within-fresh (v.length - v.state.steps) j v.length v.state refl in
    let passes = passes-end j v.length v.state v.mode h.mode in
    let mine : EndsWith (letters_after v.length j (first_state v.start)) (mode_pair g.edges (asker_at j v.state) v.mode ++ letters_within j v.length v.state v.mode) =
    ends-trans _ (letters_after (v.length - v.state.steps) j v.state) _ steps
    (ends-trans _ (letters_within j v.length v.state Fresh) _ (ends-self _ _ (sym fresh)) passes) in (
      mine.0,
      sym (ap (λ n. letters_after n (journey_in g v.number) (first_state (g.start v.number))) h.length)
          ∙ sym (ap (λ start. letters_after v.length (journey_from g v.number start) (first_state start)) h.start)
          ∙ mine.1,
    )

-- the letters of a walk end with that of its last step, where the walker is on its way, and those that follow
pub on_way-ends : (g : PartedRun) (v : Walker) (from to : ℕ) → IsOnWay g v from to
    → EndsWith (letters_in g v.number) (letter_of (Travels v from to) ∷ letters_from g v)
unfolding letters_from move_letters
on_way-ends g v from to h =
    let j = journey_from g v.number v.start in
    let before = h.came.before in
    let m = v.length - v.state.steps in
    let whole : v.length ≡ before.steps + suc m = (let within = h.holds.within in let count = h.came.steps in omega arith) in
    let steps = steps-end before.steps (suc m) v.length j before whole h.came.reached in
    let step = step-ends m j before v.state h.came.step in
    let fresh = ap (letters_within j v.length v.state) h.fresh ∙ letters_within-fresh m j v.length v.state refl in
    let apart : (g.owner before.at == g.owner v.state.at) ≡ false =
    ap (λ n. n == g.owner v.state.at) h.came.left ∙ ap (λ n. from == n) h.came.comes ∙ h.came.other in
    let moves : move_letters j before v.state ≡ letter_of (Travels v from to) ∷ [] =
    ap (λ b. if b then [] else letter_of (Travels v (g.owner before.at) (g.owner v.state.at)) ∷ []) apart
    ∙ ap (λ n. letter_of (Travels v n (g.owner v.state.at)) ∷ []) h.came.left
    ∙ ap (λ n. letter_of (Travels v from n) ∷ []) h.came.comes in
    let mine : EndsWith (letters_after v.length j (first_state v.start)) (letter_of (Travels v from to) ∷ letters_within j v.length v.state v.mode) =
    ends-trans _ (letters_after (suc m) j before) _ steps
    (ends-trans _ (move_letters j before v.state ++ letters_after m j v.state) _ step
    (ends-self _ _ (ap (λ l. l ++ letters_after m j v.state) moves ∙ ap (λ l. letter_of (Travels v from to) ∷ l) (sym fresh)))) in (
      mine.0,
      sym (ap (λ n. letters_after n (journey_in g v.number) (first_state (g.start v.number))) h.holds.length)
          ∙ sym (ap (λ start. letters_after v.length (journey_from g v.number start) (first_state start)) h.holds.start)
          ∙ mine.1,
    )

-- the letters of a question and its reply are those of the ask and the reply
asker-pair : (edges : List Edge) (j : Journey) (v : Walker) (r : Option Asker) (a : Asker) (q : Question)
    → j.walker ≡ v.number → r ≡ Some a → IsAsker j v.state j.course.plan.rule v.state.previous a → asked_vertex q ≡ a.before
    → pair_of edges r q
    ≡ letter_of (Asks (ask_with j.owner v q) (j.owner (asked_vertex q)))
    ∷ letter_of (Replies (reply_to edges (ask_with j.owner v q)) (j.owner (asked_vertex q))) ∷ []
asker-pair edges j v r a q n e is t =
    let two = λ (w u : ℕ).
    letter_of (Asks (record { walker = w; step = v.state.steps + 1; home = j.owner v.state.at; question = q }) (j.owner u))
    ∷ letter_of (Replies (reply_to edges (record { walker = w; step = v.state.steps + 1; home = j.owner v.state.at; question = q })) (j.owner u)) ∷ [] in
    let about : asked_vertex q ≡ is.t = t ∙ ap (λ (x : Asker). x.before) is.same in
    ap (λ o. pair_of edges o q) e ∙ ap (λ x. pair_of edges (Some x) q) is.same
    ∙ ap (λ w. two w is.t) n ∙ ap (λ u. two v.number u) (sym about)

mode-question : (g : PartedRun) (v : Walker) (m : Mode) (q : Question) (r : Option Asker)
    → asker_at (journey_from g v.number v.start) v.state ≡ r → Passes (journey_from g v.number v.start) v.length v.state m
    → question_of m ≡ Some q
    → mode_pair g.edges (asker_at (journey_from g v.number v.start) v.state) m
    ≡ letter_of (Asks (ask_with g.owner v q) (g.owner (asked_vertex q)))
    ∷ letter_of (Replies (reply_to g.edges (ask_with g.owner v q)) (g.owner (asked_vertex q))) ∷ []
mode-question g v Fresh q r e p w = absurd (none-some q w)
mode-question g v (Darts left place) q r e p w = absurd (none-some q w)
mode-question g v (Chosen edge place) q r e p w = absurd (none-some q w)
mode-question g v Over q r e p w = absurd (none-some q w)
mode-question g v (Asked left place u) q None e p w =
    absurd (none-some u (let n = p.needed in rw e at n))
mode-question g v (Asked left place u) q (Some a) e p w =
    let j = journey_from g v.number v.start in
    let n = p.needed in
    let same : u ≡ q = same_Some u q w in
    let needed : edge_question (Some a) (board_at j v.state) (j.course.words place) ≡ Some q = rw same at (rw e at n) in
    let is = asker_at-is j v.state a e in
    let needs = edge_question-is a (board_at j v.state) (j.course.words place) q (fold_word (area (board_at j v.state)) (j.course.words place)) refl needed in
    ap (pair_of g.edges (asker_at j v.state)) same
    ∙ asker-pair g.edges j v (asker_at j v.state) a q refl e is (ap asked_vertex needs.asks)
mode-question g v (AskedRow place u) q None e p w =
    absurd (none-some u (let n = p.needed in rw e at n))
mode-question g v (AskedRow place u) q (Some a) e p w =
    let j = journey_from g v.number v.start in
    let n = p.needed in
    let same : u ≡ q = same_Some u q w in
    let needed : row_question (Some a) ≡ Some q = rw same at (rw e at n) in
    let is = asker_at-is j v.state a e in
    ap (pair_of g.edges (asker_at j v.state)) same
    ∙ asker-pair g.edges j v (asker_at j v.state) a q refl e is (ap asked_vertex (row_question-is a q needed))

pub question-pair : (g : PartedRun) (v : Walker) (q : Question) → IsTrueTo g v → question_of v.mode ≡ Some q
    → mode_pair g.edges (asker_at (journey_from g v.number v.start) v.state) v.mode
    ≡ letter_of (Asks (ask_with g.owner v q) (g.owner (asked_vertex q)))
    ∷ letter_of (Replies (reply_to g.edges (ask_with g.owner v q)) (g.owner (asked_vertex q))) ∷ []
question-pair g v q h w =
    mode-question g v v.mode q (asker_at (journey_from g v.number v.start) v.state) refl h.mode w
