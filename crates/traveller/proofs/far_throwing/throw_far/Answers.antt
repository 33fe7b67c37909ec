use Rattle.std.proofs.Common.{◌≡◌, ◌+◌, ◌-◌, ℕ, suc, Some, ap, sym, subst, ◌∙◌, arith}
use Rattle.std.specs.Prelude.{slice_index}
use Rattle.walk_model.specs.declared.messages.Question.TheVariants as question
use Rattle.walk_model.specs.Words.{word}
use Rattle.walk_model.specs.Dart.{Board, hit}
use Rattle.dart_envelope.specs.ClassBoards.{board_by}
use Rattle.dart_envelope.specs.Verdicts.{verdict_of, settled}
use Rattle.dart_envelope.specs.declared.verdict.Verdict.TheVariants as verdict
use Rattle.traveller.specs.declared.modes.Mode.TheVariants.{Asked, Chosen}
use Rattle.traveller.specs.Far.{Tells}
use Rattle.traveller.specs.Turns.{edge_question, throws}
use Rattle.traveller.proofs.FarLemmas.{far-take, far-passed, far-ask, far-spent}
use Rattle.traveller.proofs.FarTicks.{asked-spent, asked-hit, asked-asks, asked-passed}
use Rattle.traveller.proofs.TickLemmas.{column-read}
use Rattle.traveller.specs.Ticks.{dart_column, columns}
use Rattle.traveller.proofs.far_throwing.throw_far.Goals as goal

pub returns-in-Take-clause-mode : goal.returns-in-Take-clause-mode
unfolding settled
returns-in-Take-clause-mode g c = λ a classes suits tell.
    let b : Board = board_by c.args.board.now classes in
    let words : ℕ → ℕ = word c.args.reader.now.seed c.args.reader.now.walker in
    let left : ℕ = c.loop-left.left - 1 in
    let left_is : c.loop-left.left ≡ suc left = (let some = c.loop-left-test.true in omega (arith, some)) in
    let told : c.peek-word.result ≡ words c.loop-left.reader.place =
    rw (← c.loop-left.invariant.seed, ← c.loop-left.invariant.walker) c.peek-word.ensures.word in
    let found : verdict_of c.args.board.now (words c.loop-left.reader.place) ≡ verdict.Take c.in-Take.edge = sym (c.in-Take.ensures.verdict ∙ ap (verdict_of c.args.board.now) told) in
    let step : c.next-word.new.self.place ≡ c.loop-left.reader.place + 1 =
    ap (λ r. r.place) c.next-word.ensures.moved ∙ ap (λ r. r.place + 1) c.peek-word.ensures.stays in
    let both : Tells a (edge_question (Some a) b (words c.loop-left.reader.place)) (verdict.Take c.in-Take.edge) = subst (Tells a (edge_question (Some a) b (words c.loop-left.reader.place))) found (tell (words c.loop-left.reader.place)) in
    sym (c.loop-left.invariant.rest a classes suits tell)
    ∙ far-take c.loop-left.left left a b words c.loop-left.reader.place c.in-Take.edge left_is both (ap (hit b) (sym told) ∙ c.in-Take.ensures.hit classes suits)
    ∙ ap (Chosen c.in-Take.edge) (sym step)

pub returns-in-Need-clause-mode : goal.returns-in-Need-clause-mode
returns-in-Need-clause-mode g c = λ a classes suits tell.
    let b : Board = board_by c.args.board.now classes in
    let words : ℕ → ℕ = word c.args.reader.now.seed c.args.reader.now.walker in
    let left : ℕ = c.loop-left.left - 1 in
    let left_is : c.loop-left.left ≡ suc left = (let some = c.loop-left-test.true in omega (arith, some)) in
    let told : c.peek-word.result ≡ words c.loop-left.reader.place =
    rw (← c.loop-left.invariant.seed, ← c.loop-left.invariant.walker) c.peek-word.ensures.word in
    let found : verdict_of c.args.board.now (words c.loop-left.reader.place) ≡ verdict.Need c.in-Need.edge c.in-Need.height = sym (c.in-Need.ensures.verdict ∙ ap (verdict_of c.args.board.now) told) in
    let asks : Tells a (edge_question (Some a) b (words c.loop-left.reader.place)) (verdict.Need c.in-Need.edge c.in-Need.height) = subst (Tells a (edge_question (Some a) b (words c.loop-left.reader.place))) found (tell (words c.loop-left.reader.place)) in
    sym (c.loop-left.invariant.rest a classes suits tell)
    ∙ far-ask c.loop-left.left left a b words c.loop-left.reader.place (question.Edge a.before (slice_index a.ends c.in-Need.edge)) left_is asks
    ∙ ap (λ p. Asked left p (question.Edge a.before (slice_index a.ends c.in-Need.edge))) (sym (ap (λ r. r.place) c.peek-word.ensures.stays))

pub returns-in-Take-clause-ticks : goal.returns-in-Take-clause-ticks
unfolding settled
returns-in-Take-clause-ticks g c = λ a classes suits tell.
    let b : Board = board_by c.args.board.now classes in
    let words : ℕ → ℕ = word c.args.reader.now.seed c.args.reader.now.walker in
    let left : ℕ = c.loop-left.left - 1 in
    let left_is : c.loop-left.left ≡ suc left = (let some = c.loop-left-test.true in omega (arith, some)) in
    let told : c.peek-word.result ≡ words c.loop-left.reader.place =
    rw (← c.loop-left.invariant.seed, ← c.loop-left.invariant.walker) c.peek-word.ensures.word in
    let found : verdict_of c.args.board.now (words c.loop-left.reader.place) ≡ verdict.Take c.in-Take.edge = sym (c.in-Take.ensures.verdict ∙ ap (verdict_of c.args.board.now) told) in
    let both : Tells a (edge_question (Some a) b (words c.loop-left.reader.place)) (verdict.Take c.in-Take.edge) = subst (Tells a (edge_question (Some a) b (words c.loop-left.reader.place))) found (tell (words c.loop-left.reader.place)) in
    let read : c.throw.new.steps ≡ c.loop-left.steps + dart_column b (words c.loop-left.reader.place) =
    c.in-Take.ensures.cost ∙ ap (λ k. c.loop-left.steps + k) (column-read c.args.board.now classes c.peek-word.result ∙ ap (dart_column b) told) in
    let last = asked-hit c.loop-left.left left (Some a) b words c.loop-left.reader.place c.in-Take.edge left_is both (ap (hit b) (sym told) ∙ c.in-Take.ensures.hit classes suits) in
    let rest = c.loop-left.invariant.ticks a classes suits tell in
    omega (arith, read, last, rest)

pub returns-in-Need-clause-ticks : goal.returns-in-Need-clause-ticks
returns-in-Need-clause-ticks g c = λ a classes suits tell.
    let b : Board = board_by c.args.board.now classes in
    let words : ℕ → ℕ = word c.args.reader.now.seed c.args.reader.now.walker in
    let left : ℕ = c.loop-left.left - 1 in
    let left_is : c.loop-left.left ≡ suc left = (let some = c.loop-left-test.true in omega (arith, some)) in
    let told : c.peek-word.result ≡ words c.loop-left.reader.place =
    rw (← c.loop-left.invariant.seed, ← c.loop-left.invariant.walker) c.peek-word.ensures.word in
    let found : verdict_of c.args.board.now (words c.loop-left.reader.place) ≡ verdict.Need c.in-Need.edge c.in-Need.height = sym (c.in-Need.ensures.verdict ∙ ap (verdict_of c.args.board.now) told) in
    let asks : Tells a (edge_question (Some a) b (words c.loop-left.reader.place)) (verdict.Need c.in-Need.edge c.in-Need.height) = subst (Tells a (edge_question (Some a) b (words c.loop-left.reader.place))) found (tell (words c.loop-left.reader.place)) in
    let read : c.throw.new.steps ≡ c.loop-left.steps + dart_column b (words c.loop-left.reader.place) =
    c.in-Need.ensures.cost ∙ ap (λ k. c.loop-left.steps + k) (column-read c.args.board.now classes c.peek-word.result ∙ ap (dart_column b) told) in
    let last = asked-asks c.loop-left.left left (Some a) b words c.loop-left.reader.place (question.Edge a.before (slice_index a.ends c.in-Need.edge)) left_is asks in
    let rest = c.loop-left.invariant.ticks a classes suits tell in
    omega (arith, read, last, rest)

pub returns-clause-ticks : goal.returns-clause-ticks
returns-clause-ticks g c = λ a classes suits tell.
    let b : Board = board_by c.args.board.now classes in
    let none : c.loop-left.left ≡ 0 = (let test = c.loop-left-test.false in omega (arith, test)) in
    let spent = asked-spent c.loop-left.left (Some a) b (word c.args.reader.now.seed c.args.reader.now.walker) c.loop-left.reader.place none in
    let rest = c.loop-left.invariant.ticks a classes suits tell in
    omega (arith, spent, rest)

pub returns-in-Need-clause-within : goal.returns-in-Need-clause-within
returns-in-Need-clause-within g c =
    let some = c.loop-left-test.true in
    let place = c.loop-left.invariant.place in
    let low = c.loop-left.invariant.low in
    (c.in-Need.ensures.within, omega (arith, some, low))

pub loop-left-preserved-in-Miss : goal.loop-left-preserved-in-Miss
unfolding settled
loop-left-preserved-in-Miss g c =
    let words : ℕ → ℕ = word c.args.reader.now.seed c.args.reader.now.walker in
    let left : ℕ = c.loop-left.left - 1 in
    let left_is : c.loop-left.left ≡ suc left = (let some = c.loop-left-test.true in omega (arith, some)) in
    let told : c.peek-word.result ≡ words c.loop-left.reader.place =
    rw (← c.loop-left.invariant.seed, ← c.loop-left.invariant.walker) c.peek-word.ensures.word in
    let found : verdict_of c.args.board.now (words c.loop-left.reader.place) ≡ verdict.Miss = sym (c.in-Miss.ensures.verdict ∙ ap (verdict_of c.args.board.now) told) in
    let step : c.next-word-in-Miss.new.self.place ≡ c.loop-left.reader.place + 1 =
    ap (λ r. r.place) c.next-word-in-Miss.ensures.moved ∙ ap (λ r. r.place + 1) c.peek-word.ensures.stays in
    let some = c.loop-left-test.true in
    let before = c.loop-left.invariant.place in
    let low = c.loop-left.invariant.low in
    record {
      seed = ap (λ r. r.seed) c.next-word-in-Miss.ensures.moved ∙ ap (λ r. r.seed) c.peek-word.ensures.stays ∙ c.loop-left.invariant.seed;
      walker = ap (λ r. r.walker) c.next-word-in-Miss.ensures.moved ∙ ap (λ r. r.walker) c.peek-word.ensures.stays ∙ c.loop-left.invariant.walker;
      place = omega (arith, step, some, before);
      low = omega (arith, low);
      rest = λ a classes suits tell.
          (let b : Board = board_by c.args.board.now classes in
          let both : Tells a (edge_question (Some a) b (words c.loop-left.reader.place)) verdict.Miss = subst (Tells a (edge_question (Some a) b (words c.loop-left.reader.place))) found (tell (words c.loop-left.reader.place)) in
          ap (throws left (Some a) b words) step
          ∙ sym (far-passed c.loop-left.left left a b words c.loop-left.reader.place left_is both (ap (hit b) (sym told) ∙ c.in-Miss.ensures.hit classes suits))
          ∙ c.loop-left.invariant.rest a classes suits tell);
      ticks = λ a classes suits tell.
          (let b : Board = board_by c.args.board.now classes in
          let both : Tells a (edge_question (Some a) b (words c.loop-left.reader.place)) verdict.Miss = subst (Tells a (edge_question (Some a) b (words c.loop-left.reader.place))) found (tell (words c.loop-left.reader.place)) in
          let read : c.throw.new.steps ≡ c.loop-left.steps + dart_column b (words c.loop-left.reader.place) =
          c.in-Miss.ensures.cost ∙ ap (λ k. c.loop-left.steps + k) (column-read c.args.board.now classes c.peek-word.result ∙ ap (dart_column b) told) in
          let passed = asked-passed c.loop-left.left left (Some a) b words c.loop-left.reader.place left_is both (ap (hit b) (sym told) ∙ c.in-Miss.ensures.hit classes suits) in
          let rest = c.loop-left.invariant.ticks a classes suits tell in
          let next = ap (columns left (Some a) b words) step in
          omega (arith, read, passed, rest, next));
    }

pub loop-left-preserved : goal.loop-left-preserved
unfolding settled
loop-left-preserved g c =
    let words : ℕ → ℕ = word c.args.reader.now.seed c.args.reader.now.walker in
    let left : ℕ = c.loop-left.left - 1 in
    let left_is : c.loop-left.left ≡ suc left = (let some = c.loop-left-test.true in omega (arith, some)) in
    let told : c.peek-word.result ≡ words c.loop-left.reader.place =
    rw (← c.loop-left.invariant.seed, ← c.loop-left.invariant.walker) c.peek-word.ensures.word in
    let found : verdict_of c.args.board.now (words c.loop-left.reader.place) ≡ verdict.Turned = sym (c.in-Turned.ensures.verdict ∙ ap (verdict_of c.args.board.now) told) in
    let step : c.next-word-in-Turned.new.self.place ≡ c.loop-left.reader.place + 1 =
    ap (λ r. r.place) c.next-word-in-Turned.ensures.moved ∙ ap (λ r. r.place + 1) c.peek-word.ensures.stays in
    let some = c.loop-left-test.true in
    let before = c.loop-left.invariant.place in
    let low = c.loop-left.invariant.low in
    record {
      seed = ap (λ r. r.seed) c.next-word-in-Turned.ensures.moved ∙ ap (λ r. r.seed) c.peek-word.ensures.stays ∙ c.loop-left.invariant.seed;
      walker = ap (λ r. r.walker) c.next-word-in-Turned.ensures.moved ∙ ap (λ r. r.walker) c.peek-word.ensures.stays ∙ c.loop-left.invariant.walker;
      place = omega (arith, step, some, before);
      low = omega (arith, low);
      rest = λ a classes suits tell.
          (let b : Board = board_by c.args.board.now classes in
          let both : Tells a (edge_question (Some a) b (words c.loop-left.reader.place)) verdict.Turned = subst (Tells a (edge_question (Some a) b (words c.loop-left.reader.place))) found (tell (words c.loop-left.reader.place)) in
          ap (throws left (Some a) b words) step
          ∙ sym (far-passed c.loop-left.left left a b words c.loop-left.reader.place left_is both (ap (hit b) (sym told) ∙ c.in-Turned.ensures.hit classes suits))
          ∙ c.loop-left.invariant.rest a classes suits tell);
      ticks = λ a classes suits tell.
          (let b : Board = board_by c.args.board.now classes in
          let both : Tells a (edge_question (Some a) b (words c.loop-left.reader.place)) verdict.Turned = subst (Tells a (edge_question (Some a) b (words c.loop-left.reader.place))) found (tell (words c.loop-left.reader.place)) in
          let read : c.throw.new.steps ≡ c.loop-left.steps + dart_column b (words c.loop-left.reader.place) =
          c.in-Turned.ensures.cost ∙ ap (λ k. c.loop-left.steps + k) (column-read c.args.board.now classes c.peek-word.result ∙ ap (dart_column b) told) in
          let passed = asked-passed c.loop-left.left left (Some a) b words c.loop-left.reader.place left_is both (ap (hit b) (sym told) ∙ c.in-Turned.ensures.hit classes suits) in
          let rest = c.loop-left.invariant.ticks a classes suits tell in
          let next = ap (columns left (Some a) b words) step in
          omega (arith, read, passed, rest, next));
    }

pub returns-clause-mode : goal.returns-clause-mode
returns-clause-mode g c = λ a classes suits tell.
    let b : Board = board_by c.args.board.now classes in
    let none : c.loop-left.left ≡ 0 = (let test = c.loop-left-test.false in omega (arith, test)) in
    sym (c.loop-left.invariant.rest a classes suits tell)
    ∙ far-spent c.loop-left.left a b (word c.args.reader.now.seed c.args.reader.now.walker) c.loop-left.reader.place none
