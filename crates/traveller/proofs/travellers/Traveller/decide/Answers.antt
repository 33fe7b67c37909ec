use Rattle.std.proofs.Common.{◌≡◌, ◌<◌, ◌+◌, ℕ, None, refl, ap, sym, subst, ◌∙◌, arith}
use Rattle.walk_model.specs.declared.states.State.{State}
use Rattle.walk_model.specs.Words.{word}
use Rattle.walk_model.specs.Letters.{Journey}
use Rattle.vertex_partition.specs.PartViews.{Owns}
use Rattle.traveller.specs.declared.deciding.Decision.TheVariants as decision
use Rattle.traveller.specs.declared.modes.Mode.{Mode}
use Rattle.traveller.specs.declared.modes.Mode.TheVariants.{Darts}
use Rattle.traveller.specs.Askers.{GoesBy}
use Rattle.traveller.specs.Bounds.{IsModeBounded}
use Rattle.traveller.specs.Decided.{IsDecided}
use Rattle.traveller.specs.Deciding.{decided, coins_decided, led_to}
use Rattle.traveller.specs.Standing.{IsPossible, StandsIn, journey_on, own_graph}
use Rattle.traveller.specs.Ticks.{coins_columns, turn_columns}
use Rattle.traveller.specs.Walkers.{Walker, fresh_at}
use Rattle.traveller.proofs.DecidedLemmas.{own-part, row-decided, decided-bounded, decided-goes, decided-possible, darts-decided, darts-columns}
use Rattle.traveller.proofs.StepLemmas.{fresh-decided}
use Rattle.traveller.proofs.TurnTicks.{ticks-fresh}
use Rattle.traveller.proofs.travellers.Traveller.decide.Goals as goal

pub choose_from-self-inside-requires-clause-fits : goal.choose_from-self-inside-requires-clause-fits
choose_from-self-inside-requires-clause-fits g c =
    let w : Walker = record { number = c.self.inside.number; start = c.self.inside.start; length = c.self.inside.length; state = c.self.inside.state; mode = c.self.inside.mode } in
    let stands : StandsIn c.args.run.now c.args.part.now w = subst (StandsIn c.args.run.now c.args.part.now) (sym c.self.view_is) c.requires.stands in
    let here : Owns c.args.part.now w.state.at = record { below = stands.within.at; owner_is = stands.owned } in
    stands.suits.fits w.state.at here

pub returns-in-Back-clause-data : goal.returns-in-Back-clause-data
returns-in-Back-clause-data g c = λ graph of.
    let w : Walker = record { number = c.self.inside.number; start = c.self.inside.start; length = c.self.inside.length; state = c.self.inside.state; mode = c.self.inside.mode } in
    let stands : StandsIn c.args.run.now c.args.part.now w = subst (StandsIn c.args.run.now c.args.part.now) (sym c.self.view_is) c.requires.stands in
    let here : Owns c.args.part.now w.state.at = record { below = stands.within.at; owner_is = stands.owned } in
    let s : State = c.self.inside.state in
    let more : w.state.steps < w.length = (let e = c.if-self.false in omega (arith, e)) in
    let walker : c.seek.new.self.walker ≡ c.self.inside.number = ap (λ r. r.walker) c.seek.ensures in
    let led = subst (λ (n : ℕ). led_to (fresh_at n c.self.inside.start c.self.inside.length s) (decision.Back c.in-Back.place)
    ≡ coins_decided (journey_on graph c.args.run.now c.args.part.now.cuts (fresh_at n c.self.inside.start c.self.inside.length s)) (fresh_at n c.self.inside.start c.self.inside.length s))
    walker (c.in-Back.ensures.data graph c.self.inside.start c.self.inside.length of) in
    subst (λ (v : Walker). record w {
      state = record { at = c.self.inside.start; previous = None; phase = 0; steps = c.self.inside.state.steps + 1; place = c.in-Back.place };
    } ≡ decided (journey_on graph c.args.run.now c.args.part.now.cuts v) v) c.self.view_is
    (ap (λ (m : Mode). record w {
      state = record { at = c.self.inside.start; previous = None; phase = 0; steps = c.self.inside.state.steps + 1; place = c.in-Back.place };
      mode = m;
    }) c.in-Fresh.is
    ∙ led ∙ fresh-decided graph c.args.run.now c.args.part.now.cuts w c.in-Fresh.is more)

pub returns-in-Comes-clause-data : goal.returns-in-Comes-clause-data
returns-in-Comes-clause-data g c = λ graph of.
    let w : Walker = record { number = c.self.inside.number; start = c.self.inside.start; length = c.self.inside.length; state = c.self.inside.state; mode = c.self.inside.mode } in
    let stands : StandsIn c.args.run.now c.args.part.now w = subst (StandsIn c.args.run.now c.args.part.now) (sym c.self.view_is) c.requires.stands in
    let here : Owns c.args.part.now w.state.at = record { below = stands.within.at; owner_is = stands.owned } in
    let s : State = c.self.inside.state in
    let more : w.state.steps < w.length = (let e = c.if-self.false in omega (arith, e)) in
    let walker : c.seek.new.self.walker ≡ c.self.inside.number = ap (λ r. r.walker) c.seek.ensures in
    let led = subst (λ (n : ℕ). led_to (fresh_at n c.self.inside.start c.self.inside.length s) (decision.Comes c.in-Comes.mode)
    ≡ coins_decided (journey_on graph c.args.run.now c.args.part.now.cuts (fresh_at n c.self.inside.start c.self.inside.length s)) (fresh_at n c.self.inside.start c.self.inside.length s))
    walker (c.in-Comes.ensures.data graph c.self.inside.start c.self.inside.length of) in
    subst (λ (v : Walker). record w { mode = c.in-Comes.mode } ≡ decided (journey_on graph c.args.run.now c.args.part.now.cuts v) v) c.self.view_is
    (led ∙ fresh-decided graph c.args.run.now c.args.part.now.cuts w c.in-Fresh.is more)

pub returns-in-Back-clause-ticks : goal.returns-in-Back-clause-ticks
returns-in-Back-clause-ticks g c = λ graph of.
    let w : Walker = record { number = c.self.inside.number; start = c.self.inside.start; length = c.self.inside.length; state = c.self.inside.state; mode = c.self.inside.mode } in
    let s : State = c.self.inside.state in
    let more : w.state.steps < w.length = (let e = c.if-self.false in omega (arith, e)) in
    let walker : c.seek.new.self.walker ≡ c.self.inside.number = ap (λ r. r.walker) c.seek.ensures in
    let read = subst (λ (n : ℕ). c.begun.new.steps ≡ c.args.steps.now + coins_columns (journey_on graph c.args.run.now c.args.part.now.cuts (fresh_at n c.self.inside.start c.self.inside.length s)) s)
    walker (c.in-Back.ensures.ticks graph c.self.inside.start c.self.inside.length of) in
    subst (λ (v : Walker). c.begun.new.steps ≡ c.args.steps.now + turn_columns (journey_on graph c.args.run.now c.args.part.now.cuts v) v v.mode) c.self.view_is
    (read ∙ ap (λ n. c.args.steps.now + n) (ticks-fresh graph c.args.run.now c.args.part.now.cuts w c.in-Fresh.is more))

pub returns-in-Comes-clause-ticks : goal.returns-in-Comes-clause-ticks
returns-in-Comes-clause-ticks g c = λ graph of.
    let w : Walker = record { number = c.self.inside.number; start = c.self.inside.start; length = c.self.inside.length; state = c.self.inside.state; mode = c.self.inside.mode } in
    let s : State = c.self.inside.state in
    let more : w.state.steps < w.length = (let e = c.if-self.false in omega (arith, e)) in
    let walker : c.seek.new.self.walker ≡ c.self.inside.number = ap (λ r. r.walker) c.seek.ensures in
    let read = subst (λ (n : ℕ). c.begun.new.steps ≡ c.args.steps.now + coins_columns (journey_on graph c.args.run.now c.args.part.now.cuts (fresh_at n c.self.inside.start c.self.inside.length s)) s)
    walker (c.in-Comes.ensures.ticks graph c.self.inside.start c.self.inside.length of) in
    subst (λ (v : Walker). c.begun.new.steps ≡ c.args.steps.now + turn_columns (journey_on graph c.args.run.now c.args.part.now.cuts v) v v.mode) c.self.view_is
    (read ∙ ap (λ n. c.args.steps.now + n) (ticks-fresh graph c.args.run.now c.args.part.now.cuts w c.in-Fresh.is more))

pub returns-in-Comes-clause-goes : goal.returns-in-Comes-clause-goes
returns-in-Comes-clause-goes g c =
    let w : Walker = record { number = c.self.inside.number; start = c.self.inside.start; length = c.self.inside.length; state = c.self.inside.state; mode = c.self.inside.mode } in
    let stands : StandsIn c.args.run.now c.args.part.now w = subst (StandsIn c.args.run.now c.args.part.now) (sym c.self.view_is) c.requires.stands in
    let here : Owns c.args.part.now w.state.at = record { below = stands.within.at; owner_is = stands.owned } in
    decided-goes c.args.run.now c.args.part.now w c.args.run.now.plan.retries (w.state.place + 1128) c.in-Comes.mode stands.owned
    (subst (λ n. IsDecided (journey_on (own_graph c.args.part.now) c.args.run.now c.args.part.now.cuts (fresh_at n 0 0 w.state)) w.state c.args.run.now.plan.retries (w.state.place + 1128) c.in-Comes.mode)
    (ap (λ r. r.walker) c.seek.ensures) c.in-Comes.ensures.bound)

pub returns-in-Darts-clause-data : goal.returns-in-Darts-clause-data
returns-in-Darts-clause-data g c = λ graph of.
    let w : Walker = record { number = c.self.inside.number; start = c.self.inside.start; length = c.self.inside.length; state = c.self.inside.state; mode = c.self.inside.mode } in
    let stands : StandsIn c.args.run.now c.args.part.now w = subst (StandsIn c.args.run.now c.args.part.now) (sym c.self.view_is) c.requires.stands in
    let here : Owns c.args.part.now w.state.at = record { below = stands.within.at; owner_is = stands.owned } in
    let own : word c.args.run.now.seed c.self.inside.number ≡ word c.seek-in-Darts.new.self.seed c.seek-in-Darts.new.self.walker =
    (let seed : c.seek-in-Darts.new.self.seed ≡ c.args.run.now.seed = ap (λ r. r.seed) c.seek-in-Darts.ensures ∙ c.requires.seed in
    let walker : c.seek-in-Darts.new.self.walker ≡ c.self.inside.number = ap (λ r. r.walker) c.seek-in-Darts.ensures in
    sym (ap (λ k. word k c.seek-in-Darts.new.self.walker) seed ∙ ap (word c.args.run.now.seed) walker)) in
    let place : c.seek-in-Darts.new.self.place ≡ c.in-Darts.place = ap (λ r. r.place) c.seek-in-Darts.ensures in
    let words : ℕ → ℕ = word c.seek-in-Darts.new.self.seed c.seek-in-Darts.new.self.walker in
    let j : Journey = journey_on graph c.args.run.now c.args.part.now.cuts w in
    let goes : GoesBy graph c.args.part.now c.args.run.now.plan words j = record { edges = refl; plan_is = refl; words_are = own; owners = λ v. refl } in
    subst (λ (v : Walker). record w { mode = c.choose_from-self-inside.result } ≡ decided (journey_on graph c.args.run.now c.args.part.now.cuts v) v) c.self.view_is
    (darts-decided graph c.args.run.now c.args.part.now w c.in-Darts.left c.in-Darts.place c.seek-in-Darts.new.self.place words c.choose_from-self-inside.result of here
    c.in-Darts.is stands.possible own place (c.choose_from-self-inside.ensures.mode graph j of goes))

pub returns-in-Darts-clause-ticks : goal.returns-in-Darts-clause-ticks
returns-in-Darts-clause-ticks g c = λ graph of.
    let w : Walker = record { number = c.self.inside.number; start = c.self.inside.start; length = c.self.inside.length; state = c.self.inside.state; mode = c.self.inside.mode } in
    let stands : StandsIn c.args.run.now c.args.part.now w = subst (StandsIn c.args.run.now c.args.part.now) (sym c.self.view_is) c.requires.stands in
    let here : Owns c.args.part.now w.state.at = record { below = stands.within.at; owner_is = stands.owned } in
    let own : word c.args.run.now.seed c.self.inside.number ≡ word c.seek-in-Darts.new.self.seed c.seek-in-Darts.new.self.walker =
    (let seed : c.seek-in-Darts.new.self.seed ≡ c.args.run.now.seed = ap (λ r. r.seed) c.seek-in-Darts.ensures ∙ c.requires.seed in
    let walker : c.seek-in-Darts.new.self.walker ≡ c.self.inside.number = ap (λ r. r.walker) c.seek-in-Darts.ensures in
    sym (ap (λ k. word k c.seek-in-Darts.new.self.walker) seed ∙ ap (word c.args.run.now.seed) walker)) in
    let place : c.seek-in-Darts.new.self.place ≡ c.in-Darts.place = ap (λ r. r.place) c.seek-in-Darts.ensures in
    let words : ℕ → ℕ = word c.seek-in-Darts.new.self.seed c.seek-in-Darts.new.self.walker in
    let j : Journey = journey_on graph c.args.run.now c.args.part.now.cuts w in
    let goes : GoesBy graph c.args.part.now c.args.run.now.plan words j = record { edges = refl; plan_is = refl; words_are = own; owners = λ v. refl } in
    subst (λ (v : Walker). c.choose_from-self-inside.new.steps ≡ c.args.steps.now + turn_columns (journey_on graph c.args.run.now c.args.part.now.cuts v) v v.mode) c.self.view_is
    (darts-columns graph c.args.run.now c.args.part.now w c.in-Darts.left c.in-Darts.place c.seek-in-Darts.new.self.place c.args.steps.now c.choose_from-self-inside.new.steps words of here
    c.in-Darts.is stands.possible own place (c.choose_from-self-inside.ensures.ticks graph j of goes))

pub returns-in-Darts-clause-goes : goal.returns-in-Darts-clause-goes
returns-in-Darts-clause-goes g c =
    let w : Walker = record { number = c.self.inside.number; start = c.self.inside.start; length = c.self.inside.length; state = c.self.inside.state; mode = c.self.inside.mode } in
    let stands : StandsIn c.args.run.now c.args.part.now w = subst (StandsIn c.args.run.now c.args.part.now) (sym c.self.view_is) c.requires.stands in
    let here : Owns c.args.part.now w.state.at = record { below = stands.within.at; owner_is = stands.owned } in
    let own : word c.args.run.now.seed c.self.inside.number ≡ word c.seek-in-Darts.new.self.seed c.seek-in-Darts.new.self.walker =
    (let seed : c.seek-in-Darts.new.self.seed ≡ c.args.run.now.seed = ap (λ r. r.seed) c.seek-in-Darts.ensures ∙ c.requires.seed in
    let walker : c.seek-in-Darts.new.self.walker ≡ c.self.inside.number = ap (λ r. r.walker) c.seek-in-Darts.ensures in
    sym (ap (λ k. word k c.seek-in-Darts.new.self.walker) seed ∙ ap (word c.args.run.now.seed) walker)) in
    let place : c.seek-in-Darts.new.self.place ≡ c.in-Darts.place = ap (λ r. r.place) c.seek-in-Darts.ensures in
    let words : ℕ → ℕ = word c.seek-in-Darts.new.self.seed c.seek-in-Darts.new.self.walker in
    let j : Journey = journey_on (own_graph c.args.part.now) c.args.run.now c.args.part.now.cuts w in
    let goes : GoesBy (own_graph c.args.part.now) c.args.part.now c.args.run.now.plan words j = record { edges = refl; plan_is = refl; words_are = own; owners = λ v. refl } in
    decided-goes c.args.run.now c.args.part.now w c.in-Darts.left (c.seek-in-Darts.new.self.place + c.in-Darts.left) c.choose_from-self-inside.result stands.owned
    (row-decided j w.state c.in-Darts.left c.seek-in-Darts.new.self.place (c.seek-in-Darts.new.self.place + c.in-Darts.left) words c.choose_from-self-inside.result own (omega arith)
    (c.choose_from-self-inside.ensures.mode (own_graph c.args.part.now) j (own-part c.args.part.now) goes) c.choose_from-self-inside.ensures.inside)

pub invariant_of-self-in-Darts : goal.invariant_of-self-in-Darts
invariant_of-self-in-Darts g c =
    let w : Walker = record { number = c.self.inside.number; start = c.self.inside.start; length = c.self.inside.length; state = c.self.inside.state; mode = c.self.inside.mode } in
    let stands : StandsIn c.args.run.now c.args.part.now w = subst (StandsIn c.args.run.now c.args.part.now) (sym c.self.view_is) c.requires.stands in
    let own : word c.args.run.now.seed c.self.inside.number ≡ word c.seek-in-Darts.new.self.seed c.seek-in-Darts.new.self.walker =
    (let seed : c.seek-in-Darts.new.self.seed ≡ c.args.run.now.seed = ap (λ r. r.seed) c.seek-in-Darts.ensures ∙ c.requires.seed in
    let walker : c.seek-in-Darts.new.self.walker ≡ c.self.inside.number = ap (λ r. r.walker) c.seek-in-Darts.ensures in
    sym (ap (λ k. word k c.seek-in-Darts.new.self.walker) seed ∙ ap (word c.args.run.now.seed) walker)) in
    let place : c.seek-in-Darts.new.self.place ≡ c.in-Darts.place = ap (λ r. r.place) c.seek-in-Darts.ensures in
    let words : ℕ → ℕ = word c.seek-in-Darts.new.self.seed c.seek-in-Darts.new.self.walker in
    let j : Journey = journey_on (own_graph c.args.part.now) c.args.run.now c.args.part.now.cuts w in
    let goes : GoesBy (own_graph c.args.part.now) c.args.part.now c.args.run.now.plan words j = record { edges = refl; plan_is = refl; words_are = own; owners = λ v. refl } in
    let most : ℕ = c.seek-in-Darts.new.self.place + c.in-Darts.left in
    let decided : IsDecided j w.state c.in-Darts.left most c.choose_from-self-inside.result =
    row-decided j w.state c.in-Darts.left c.seek-in-Darts.new.self.place most words c.choose_from-self-inside.result own (omega arith)
    (c.choose_from-self-inside.ensures.mode (own_graph c.args.part.now) j (own-part c.args.part.now) goes) c.choose_from-self-inside.ensures.inside in
    let was : IsModeBounded w (Darts c.in-Darts.left c.in-Darts.place) = subst (IsModeBounded w) c.in-Darts.is c.self.invariant.mode in
    let low = was.2 in
    record {
      length = c.self.invariant.length;
      steps = c.self.invariant.steps;
      phase = c.self.invariant.phase;
      place = c.self.invariant.place;
      mode = decided-bounded j w c.in-Darts.left most c.choose_from-self-inside.result was.0 was.1 (omega (arith, place, low)) decided;
    }

pub returns-in-Darts-clause-stands : goal.returns-in-Darts-clause-stands
returns-in-Darts-clause-stands g c = λ same.
    let w : Walker = record { number = c.self.inside.number; start = c.self.inside.start; length = c.self.inside.length; state = c.self.inside.state; mode = c.self.inside.mode } in
    let stands : StandsIn c.args.run.now c.args.part.now w = subst (StandsIn c.args.run.now c.args.part.now) (sym c.self.view_is) c.requires.stands in
    let own : word c.args.run.now.seed c.self.inside.number ≡ word c.seek-in-Darts.new.self.seed c.seek-in-Darts.new.self.walker =
    (let seed : c.seek-in-Darts.new.self.seed ≡ c.args.run.now.seed = ap (λ r. r.seed) c.seek-in-Darts.ensures ∙ c.requires.seed in
    let walker : c.seek-in-Darts.new.self.walker ≡ c.self.inside.number = ap (λ r. r.walker) c.seek-in-Darts.ensures in
    sym (ap (λ k. word k c.seek-in-Darts.new.self.walker) seed ∙ ap (word c.args.run.now.seed) walker)) in
    let place : c.seek-in-Darts.new.self.place ≡ c.in-Darts.place = ap (λ r. r.place) c.seek-in-Darts.ensures in
    let words : ℕ → ℕ = word c.seek-in-Darts.new.self.seed c.seek-in-Darts.new.self.walker in
    let j : Journey = journey_on (own_graph c.args.part.now) c.args.run.now c.args.part.now.cuts w in
    let goes : GoesBy (own_graph c.args.part.now) c.args.part.now c.args.run.now.plan words j = record { edges = refl; plan_is = refl; words_are = own; owners = λ v. refl } in
    let most : ℕ = c.seek-in-Darts.new.self.place + c.in-Darts.left in
    let decided : IsDecided j w.state c.in-Darts.left most c.choose_from-self-inside.result =
    row-decided j w.state c.in-Darts.left c.seek-in-Darts.new.self.place most words c.choose_from-self-inside.result own (omega arith)
    (c.choose_from-self-inside.ensures.mode (own_graph c.args.part.now) j (own-part c.args.part.now) goes) c.choose_from-self-inside.ensures.inside in
    let can : IsPossible c.args.run.now c.args.part.now w (Darts c.in-Darts.left c.in-Darts.place) = subst (IsPossible c.args.run.now c.args.part.now w) c.in-Darts.is stands.possible in
    record {
      suits = stands.suits;
      within = record { start = stands.within.start; at = stands.within.at; previous = stands.within.previous };
      owned = stands.owned;
      possible = decided-possible c.args.run.now c.args.part.now w c.in-Darts.left most c.choose_from-self-inside.result can.1 decided;
    }
