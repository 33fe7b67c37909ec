-- One event takes in the letters that it takes in, and keeps all other letters that are still to come.
use Rattle.std.proofs.Common.{◌≡◌, ℕ, zero, suc, ◌+◌, ◌-◌, Bool, true, false, cond, List, [], ◌∷◌, length, refl, ap, sym, ◌∙◌, arith, None, Some, length-append}
use Rattle.std.specs.Prelude.{Option, sum_by, ◌==◌, if◌then◌else◌}
use Rattle.std.proofs.lemmas.Option.{none-some}
use Rattle.walk_model.specs.declared.graph.Edge.{Edge}
use Rattle.walk_model.specs.declared.messages.Letter.{Letter}
use Rattle.walk_model.specs.declared.messages.Question.{Question}
use Rattle.walk_model.specs.declared.states.State.{State}
use Rattle.walk_model.specs.Dart.{Board}
use Rattle.walk_model.specs.Letters.{Journey, Asker, move_letters, letters_after}
use Rattle.traveller.specs.declared.modes.Mode.{Mode}
use Rattle.traveller.specs.declared.modes.Mode.TheVariants.{Fresh, Darts, Asked, AskedRow, Chosen, Over}
use Rattle.traveller.specs.PartedRuns.{PartedRun, journey_from}
use Rattle.traveller.specs.Walkers.{Walker, question_of, asked_vertex, ask_with}
use Rattle.traveller.specs.Turns.{asker_at, board_at, edge_question, row_question, stepped, advance}
use Rattle.traveller.specs.Replies.{found_in, reply_to, hear}
use Rattle.traveller.specs.Ahead.{print_of}
use Rattle.world_law.specs.Items.{Travels, Asks, Replies}
use Rattle.world_law.specs.Truth.{Passes, IsTrueTo}
use Rattle.world_law.specs.LettersLeft.{letters_within, letters_from}
use Rattle.world_law.specs.Worlds.{Resident, Aside, Printed, Comes, Goes, Each}
use Rattle.world_law.specs.Events.{Event, Arrives, Turns, Enters, Answered, Hears, May, taken_by, given_by, letter_in, stays_or_goes, turn_pieces, turn_gives}
use Rattle.world_law.specs.Soundness.{IsTruePiece}
use Rattle.world_law.specs.LettersAhead.{walker_ahead, piece_ahead, count_in}
use Rattle.world_law.proofs.ThrowLemmas.{pair_of, mode_pair}
use Rattle.world_law.proofs.TurnLemmas.{IsRest, TrueOutcome, makes, rests, advance-true_outcome}
use Rattle.world_law.proofs.TruthLemmas.{step-steps, letters_from-stepped}
use Rattle.world_law.proofs.HearLemmas.{heard-mode}
use Rattle.world_law.proofs.EventLemmas.{sum_one, sum_two}
use Rattle.world_law.proofs.SoundLemmas.{ask-question}

-- how many letters the question of a mode stands for
abbrev pub question_count : Mode → ℕ
question_count (Asked left place q) = 2
question_count (AskedRow place q) = 2
question_count _ = 0

edge_pair : (edges : List Edge) (r : Option Asker) (b : Board) (w : ℕ) (q : Question) → edge_question r b w ≡ Some q
    → length (pair_of edges r q) ≡ 2
edge_pair edges None b w q e = absurd (none-some q e)
edge_pair edges (Some a) b w q e = refl

row_pair : (edges : List Edge) (r : Option Asker) (q : Question) → row_question r ≡ Some q → length (pair_of edges r q) ≡ 2
row_pair edges None q e = absurd (none-some q e)
row_pair edges (Some a) q e = refl

pair-length : (j : Journey) (most : ℕ) (s : State) (m : Mode) → Passes j most s m
    → length (mode_pair j.course.edges (asker_at j s) m) ≡ question_count m
pair-length j most s Fresh p = refl
pair-length j most s (Darts left place) p = refl
pair-length j most s (Chosen edge place) p = refl
pair-length j most s Over p = refl
pair-length j most s (Asked left place q) p =
    edge_pair j.course.edges (asker_at j s) (board_at j s) (j.course.words place) q p.needed
pair-length j most s (AskedRow place q) p = row_pair j.course.edges (asker_at j s) q p.needed

-- a sum where a test holds is the sum of both there
cond-sum : (c : Bool) (x y z : ℕ) → x ≡ y + z → cond c x 0 ≡ cond c y 0 + cond c z 0
cond-sum true x y z e = e
cond-sum false x y z e = omega arith

rest-ahead : (g : PartedRun) (k i : ℕ) (w : Walker) (m : Mode) → IsRest m
    → sum_by (piece_ahead g i) (turn_pieces g k w m) ≡ (if w.number == i then question_count m else 0) + walker_ahead g i w
rest-ahead g k i w Fresh r = absurd r
rest-ahead g k i w (Darts left place) r = absurd r
rest-ahead g k i w (Chosen edge place) r = absurd r
rest-ahead g k i w (Asked left place q) r = omega (arith, sum_two (piece_ahead g i) (Resident k w) (Goes (Asks (ask_with g.owner w q) (g.owner (asked_vertex q)))))
rest-ahead g k i w (AskedRow place q) r = omega (arith, sum_two (piece_ahead g i) (Resident k w) (Goes (Asks (ask_with g.owner w q) (g.owner (asked_vertex q)))))
rest-ahead g k i w Over r =
    let none = cond-sum (w.number == i) 0 0 0 (omega arith) in
    omega (arith, sum_one (piece_ahead g i) (Resident k w))

move_count : (j : Journey) (s t : State) → length (move_letters j s t) ≡ (if j.owner s.at == j.owner t.at then 0 else 1)
unfolding move_letters
move_count j s t = by (j.owner s.at == j.owner t.at) _
  where
    by : (b : Bool) (l : Letter) → length (if b then [] else l ∷ []) ≡ (if b then 0 else 1)
    by true l = refl
    by false l = refl

cond-same : (c : Bool) (n : ℕ) → cond c n n ≡ n
cond-same true n = refl
cond-same false n = refl

cond-place : (c : Bool) (a k o : ℕ) → a ≡ k
    → ◌≡◌ {A = ℕ} (cond c (cond (a == o) 0 1) 0) (cond c (cond (k == o) 0 1) 0)
cond-place c a k o e = rw e refl

-- the letter of a step among parts stands for what goes on its way
place-ahead : (g : PartedRun) (k i to : ℕ) (w : Walker) (b : Bool)
    → piece_ahead g i (if b then Resident k w else Goes (Travels w k to))
    ≡ (if w.number == i then (if b then 0 else 1) else 0) + walker_ahead g i w
place-ahead g k i to w true = omega (arith, cond-same (w.number == i) 0)
place-ahead g k i to w false = refl

-- a turn keeps the letters that are still to come
turn-ahead : (g : PartedRun) (k i : ℕ) (v w : Walker) → g.owner v.state.at ≡ k
    → TrueOutcome (journey_from g v.number v.start) v v.mode w
    → walker_ahead g i v ≡ sum_by (piece_ahead g i) (turn_gives g k w)
unfolding letters_from
turn-ahead g k i v w at (makes t e c l) =
    let j = journey_from g v.number v.start in
    let u = stepped v (Some t) in
    let steps = step-steps j v.length v.state t e in
    let all : length (letters_from g v) ≡ length (move_letters j v.state t) + length (letters_from g u) =
    ap length l ∙ length-append (move_letters j v.state t) (letters_after (v.length - suc v.state.steps) j t)
    ∙ ap (λ x. length (move_letters j v.state t) + length x) (sym (letters_from-stepped g v t steps)) in
    let split = cond-sum (v.number == i) (length (letters_from g v)) (length (move_letters j v.state t)) (length (letters_from g u)) all in
    let moved = ap (λ (n : ℕ). cond (v.number == i) n zero) (move_count j v.state t) in
    let here = cond-place (v.number == i) (g.owner v.state.at) k (g.owner t.at) at in
    rw c
    (omega (
      arith,
      sum_two (piece_ahead g i) (Printed k (print_of u)) (stays_or_goes g k u),
      place-ahead g k i (g.owner t.at) u (k == g.owner t.at),
    ))
turn-ahead g k i v w at (rests m r p c l) =
    let j = journey_from g v.number v.start in
    let u : Walker = record v { mode = m } in
    let all : length (letters_from g v) ≡ question_count m + length (letters_from g u) =
    ap length l ∙ length-append (mode_pair j.course.edges (asker_at j v.state) m) (letters_within j v.length v.state m)
    ∙ ap (λ n. n + length (letters_within j v.length v.state m)) (pair-length j v.length v.state m p) in
    let split = cond-sum (v.number == i) (length (letters_from g v)) (question_count m) (length (letters_from g u)) all in
    rw c (omega (arith, rest-ahead g k i u m r))

-- a true reply keeps the letters that are still to come after it
hear-ahead : (g : PartedRun) (v : Walker) (q : Question) → IsTrueTo g v → question_of v.mode ≡ Some q
    → letters_from g v ≡ letters_from g (hear g v (found_in g.edges q))
unfolding letters_from
hear-ahead g v q h w =
    let j = journey_from g v.number v.start in
    let heard = heard-mode j v.length v.state v.mode q (asker_at j v.state) refl h.mode w in
    heard.letters

-- an ask stands for its own letter and that of its reply
ask-ahead : (c : Bool) → (if c then 2 else 0) ≡ (if c then 1 else 0) + (if c then 1 else 0)
ask-ahead true = refl
ask-ahead false = refl

-- an event takes in the letters that it takes in, and keeps all others
pub event-ahead : (g : PartedRun) (k i : ℕ) (e : Event) → May g k e → Each (IsTruePiece g) (taken_by k e)
    → sum_by (piece_ahead g i) (taken_by k e) ≡ sum_by (piece_ahead g i) (given_by g k e) + count_in i (letter_in e)
event-ahead g k i (Arrives m) may h = omega (arith, sum_one (piece_ahead g i) (Comes m), sum_one (piece_ahead g i) (Aside k m))
event-ahead g k i (Turns v) may h =
    let kept = turn-ahead g k i v (advance g v) h.0.1 (advance-true_outcome g v may.0 h.0.0) in
    omega (arith, sum_one (piece_ahead g i) (Resident k v))
event-ahead g k i (Enters v from to) may h =
    omega (arith, sum_one (piece_ahead g i) (Aside k (Travels v from to)), sum_one (piece_ahead g i) (Resident k v))
event-ahead g k i (Answered ask to) may h =
    omega (
      arith,
      sum_one (piece_ahead g i) (Aside k (Asks ask to)),
      sum_one (piece_ahead g i) (Goes (Replies (reply_to g.edges ask) k)),
      ask-ahead (ask.walker == i),
    )
event-ahead g k i (Hears v reply from) may h =
    let q = reply.ask.question in
    let asked = ask-question g.owner v reply.ask may.1 in
    let kept = hear-ahead g v q h.0.0 asked in
    let found = h.1.0.0.1 in
    let same : letters_from g v ≡ letters_from g (hear g v reply.found) = rw found kept in
    let count = ap (λ l. cond (v.number == i) (length l) 0) same in
    omega (
      arith,
      sum_two (piece_ahead g i) (Resident k v) (Aside k (Replies reply from)),
      sum_one (piece_ahead g i) (Resident k (hear g v reply.found)),
    )
