use Rattle.std.proofs.Common.{◌≡◌, ◌+◌, true, false, refl, ap, sym, subst, ◌∙◌, arith}
use Rattle.walk_model.specs.Words.{word}
use Rattle.walk_model.specs.Letters.{Journey}
use Rattle.csr_store.specs.RowGraph.{RowGraph}
use Rattle.traveller.specs.declared.runs.Run.{Run}
use Rattle.traveller.specs.Askers.{GoesBy}
use Rattle.traveller.specs.Decided.{IsDecided}
use Rattle.traveller.specs.Standing.{journey_on, own_graph}
use Rattle.traveller.specs.Walkers.{Walker, fresh_at}
use Rattle.traveller.proofs.DecidedLemmas.{own-part, row-decided, choice-from, columns-from}
use Rattle.traveller.proofs.StepLemmas.{same-coin, coins-stop, coins-back, coins-choice}
use Rattle.traveller.proofs.TurnTicks.{ticks-stop, ticks-back, ticks-choice}
use Rattle.traveller.proofs.deciding.begun.Goals as goal

pub returns-then-coin-clause-data : goal.returns-then-coin-clause-data
returns-then-coin-clause-data g c = λ graph start length of.
    let w : Walker = fresh_at c.args.reader.now.walker start length c.args.s in
    let stop = same-coin c.run.inside.0.0.stop c.args.run.now.plan.stop c.args.reader.now.seed c.args.run.now.seed c.args.reader.now.walker c.args.reader.now.walker
    c.args.reader.now.place c.args.s.place c.coin.result true c.coin.new.self.place
    c.if-coin.true (ap (λ (r : Run). r.plan.stop) c.run.view_is) c.requires.seed refl c.requires.place c.coin.ensures.value in
    coins-stop (journey_on graph c.args.run.now c.args.part.now.cuts w) w c.coin.new.self.place stop

pub returns-then-coin-2-clause-data : goal.returns-then-coin-2-clause-data
returns-then-coin-2-clause-data g c = λ graph start length of.
    let w : Walker = fresh_at c.args.reader.now.walker start length c.args.s in
    let stop = same-coin c.run.inside.0.0.stop c.args.run.now.plan.stop c.args.reader.now.seed c.args.run.now.seed c.args.reader.now.walker c.args.reader.now.walker
    c.args.reader.now.place c.args.s.place c.coin.result false c.coin.new.self.place
    c.if-coin.false (ap (λ (r : Run). r.plan.stop) c.run.view_is) c.requires.seed refl c.requires.place c.coin.ensures.value in
    let restart = same-coin c.run.inside.0.0.restart c.args.run.now.plan.restart c.coin.new.self.seed c.args.run.now.seed c.coin.new.self.walker c.args.reader.now.walker
    c.coin.new.self.place c.coin.new.self.place c.coin-2.result true c.coin-2.new.self.place
    c.if-coin-2.true (ap (λ (r : Run). r.plan.restart) c.run.view_is) (ap (λ r. r.seed) c.coin.ensures.stream ∙ c.requires.seed)
    (ap (λ r. r.walker) c.coin.ensures.stream) refl c.coin-2.ensures.value in
    rw c.place.ensures
    (coins-back (journey_on graph c.args.run.now c.args.part.now.cuts w) w c.coin.new.self.place c.coin-2.new.self.place stop restart)

pub returns-clause-data : goal.returns-clause-data
returns-clause-data g c = λ graph start length of.
    let w : Walker = fresh_at c.args.reader.now.walker start length c.args.s in
    let stop = same-coin c.run.inside.0.0.stop c.args.run.now.plan.stop c.args.reader.now.seed c.args.run.now.seed c.args.reader.now.walker c.args.reader.now.walker
    c.args.reader.now.place c.args.s.place c.coin.result false c.coin.new.self.place
    c.if-coin.false (ap (λ (r : Run). r.plan.stop) c.run.view_is) c.requires.seed refl c.requires.place c.coin.ensures.value in
    let seed : c.coin.new.self.seed ≡ c.args.run.now.seed = ap (λ r. r.seed) c.coin.ensures.stream ∙ c.requires.seed in
    let walker : c.coin.new.self.walker ≡ c.args.reader.now.walker = ap (λ r. r.walker) c.coin.ensures.stream in
    let restart = same-coin c.run.inside.0.0.restart c.args.run.now.plan.restart c.coin.new.self.seed c.args.run.now.seed c.coin.new.self.walker c.args.reader.now.walker
    c.coin.new.self.place c.coin.new.self.place c.coin-2.result false c.coin-2.new.self.place
    c.if-coin-2.false (ap (λ (r : Run). r.plan.restart) c.run.view_is) seed walker refl c.coin-2.ensures.value in
    let later_seed : c.coin-2.new.self.seed ≡ c.args.run.now.seed = ap (λ r. r.seed) c.coin-2.ensures.stream ∙ seed in
    let later_walker : c.coin-2.new.self.walker ≡ c.args.reader.now.walker = ap (λ r. r.walker) c.coin-2.ensures.stream ∙ walker in
    let j : Journey = journey_on graph c.args.run.now c.args.part.now.cuts w in
    let tries : c.run.inside.0.0.retries ≡ c.args.run.now.plan.retries = ap (λ (r : Run). r.plan.retries) c.run.view_is in
    let own : word c.args.run.now.seed c.args.reader.now.walker ≡ word c.coin-2.new.self.seed c.coin-2.new.self.walker =
    sym (ap (λ k. word k c.coin-2.new.self.walker) later_seed ∙ ap (word c.args.run.now.seed) later_walker) in
    let goes : GoesBy graph c.args.part.now c.args.run.now.plan (word c.coin-2.new.self.seed c.coin-2.new.self.walker) j =
    record { edges = refl; plan_is = refl; words_are = own; owners = λ v. refl } in
    coins-choice j w c.coin.new.self.place c.coin-2.new.self.place c.choose_from.result stop restart
    (choice-from j c.args.s c.run.inside.0.0.retries c.coin-2.new.self.place (word c.coin-2.new.self.seed c.coin-2.new.self.walker) c.choose_from.result tries own
    (c.choose_from.ensures.mode graph j of goes))

pub returns-then-coin-clause-ticks : goal.returns-then-coin-clause-ticks
returns-then-coin-clause-ticks g c = λ graph start length of.
    let w : Walker = fresh_at c.args.reader.now.walker start length c.args.s in
    let stop = same-coin c.run.inside.0.0.stop c.args.run.now.plan.stop c.args.reader.now.seed c.args.run.now.seed c.args.reader.now.walker c.args.reader.now.walker
    c.args.reader.now.place c.args.s.place c.coin.result true c.coin.new.self.place
    c.if-coin.true (ap (λ (r : Run). r.plan.stop) c.run.view_is) c.requires.seed refl c.requires.place c.coin.ensures.value in
    let none = ticks-stop (journey_on graph c.args.run.now c.args.part.now.cuts w) c.args.s c.coin.new.self.place stop in
    omega (arith, none)

pub returns-then-coin-2-clause-ticks : goal.returns-then-coin-2-clause-ticks
returns-then-coin-2-clause-ticks g c = λ graph start length of.
    let w : Walker = fresh_at c.args.reader.now.walker start length c.args.s in
    let stop = same-coin c.run.inside.0.0.stop c.args.run.now.plan.stop c.args.reader.now.seed c.args.run.now.seed c.args.reader.now.walker c.args.reader.now.walker
    c.args.reader.now.place c.args.s.place c.coin.result false c.coin.new.self.place
    c.if-coin.false (ap (λ (r : Run). r.plan.stop) c.run.view_is) c.requires.seed refl c.requires.place c.coin.ensures.value in
    let restart = same-coin c.run.inside.0.0.restart c.args.run.now.plan.restart c.coin.new.self.seed c.args.run.now.seed c.coin.new.self.walker c.args.reader.now.walker
    c.coin.new.self.place c.coin.new.self.place c.coin-2.result true c.coin-2.new.self.place
    c.if-coin-2.true (ap (λ (r : Run). r.plan.restart) c.run.view_is) (ap (λ r. r.seed) c.coin.ensures.stream ∙ c.requires.seed)
    (ap (λ r. r.walker) c.coin.ensures.stream) refl c.coin-2.ensures.value in
    let none = ticks-back (journey_on graph c.args.run.now c.args.part.now.cuts w) c.args.s c.coin.new.self.place c.coin-2.new.self.place stop restart in
    omega (arith, none)

pub returns-clause-ticks : goal.returns-clause-ticks
returns-clause-ticks g c = λ graph start length of.
    let w : Walker = fresh_at c.args.reader.now.walker start length c.args.s in
    let stop = same-coin c.run.inside.0.0.stop c.args.run.now.plan.stop c.args.reader.now.seed c.args.run.now.seed c.args.reader.now.walker c.args.reader.now.walker
    c.args.reader.now.place c.args.s.place c.coin.result false c.coin.new.self.place
    c.if-coin.false (ap (λ (r : Run). r.plan.stop) c.run.view_is) c.requires.seed refl c.requires.place c.coin.ensures.value in
    let seed : c.coin.new.self.seed ≡ c.args.run.now.seed = ap (λ r. r.seed) c.coin.ensures.stream ∙ c.requires.seed in
    let walker : c.coin.new.self.walker ≡ c.args.reader.now.walker = ap (λ r. r.walker) c.coin.ensures.stream in
    let restart = same-coin c.run.inside.0.0.restart c.args.run.now.plan.restart c.coin.new.self.seed c.args.run.now.seed c.coin.new.self.walker c.args.reader.now.walker
    c.coin.new.self.place c.coin.new.self.place c.coin-2.result false c.coin-2.new.self.place
    c.if-coin-2.false (ap (λ (r : Run). r.plan.restart) c.run.view_is) seed walker refl c.coin-2.ensures.value in
    let later_seed : c.coin-2.new.self.seed ≡ c.args.run.now.seed = ap (λ r. r.seed) c.coin-2.ensures.stream ∙ seed in
    let later_walker : c.coin-2.new.self.walker ≡ c.args.reader.now.walker = ap (λ r. r.walker) c.coin-2.ensures.stream ∙ walker in
    let j : Journey = journey_on graph c.args.run.now c.args.part.now.cuts w in
    let tries : c.run.inside.0.0.retries ≡ c.args.run.now.plan.retries = ap (λ (r : Run). r.plan.retries) c.run.view_is in
    let own : word c.args.run.now.seed c.args.reader.now.walker ≡ word c.coin-2.new.self.seed c.coin-2.new.self.walker =
    sym (ap (λ k. word k c.coin-2.new.self.walker) later_seed ∙ ap (word c.args.run.now.seed) later_walker) in
    let goes : GoesBy graph c.args.part.now c.args.run.now.plan (word c.coin-2.new.self.seed c.coin-2.new.self.walker) j =
    record { edges = refl; plan_is = refl; words_are = own; owners = λ v. refl } in
    columns-from j c.args.s c.run.inside.0.0.retries c.coin-2.new.self.place c.args.steps.now c.choose_from.new.steps (word c.coin-2.new.self.seed c.coin-2.new.self.walker) tries own
    (c.choose_from.ensures.ticks graph j of goes)
    ∙ sym (ap (λ n. c.args.steps.now + n) (ticks-choice j c.args.s c.coin.new.self.place c.coin-2.new.self.place stop restart))

pub returns-clause-bound : goal.returns-clause-bound
returns-clause-bound g c =
    let graph : RowGraph = own_graph c.args.part.now in
    let w : Walker = fresh_at c.args.reader.now.walker 0 0 c.args.s in
    let j : Journey = journey_on graph c.args.run.now c.args.part.now.cuts w in
    let tries : c.run.inside.0.0.retries ≡ c.args.run.now.plan.retries = ap (λ (r : Run). r.plan.retries) c.run.view_is in
    let seed : c.coin-2.new.self.seed ≡ c.args.run.now.seed = ap (λ r. r.seed) c.coin-2.ensures.stream ∙ ap (λ r. r.seed) c.coin.ensures.stream ∙ c.requires.seed in
    let walker : c.coin-2.new.self.walker ≡ c.args.reader.now.walker = ap (λ r. r.walker) c.coin-2.ensures.stream ∙ ap (λ r. r.walker) c.coin.ensures.stream in
    let own : word c.args.run.now.seed c.args.reader.now.walker ≡ word c.coin-2.new.self.seed c.coin-2.new.self.walker =
    sym (ap (λ k. word k c.coin-2.new.self.walker) seed ∙ ap (word c.args.run.now.seed) walker) in
    let goes : GoesBy graph c.args.part.now c.args.run.now.plan (word c.coin-2.new.self.seed c.coin-2.new.self.walker) j =
    record { edges = refl; plan_is = refl; words_are = own; owners = λ v. refl } in
    let one = c.coin.ensures.next in
    let two = c.coin-2.ensures.next in
    let place = c.requires.place in
    subst (λ n. IsDecided j c.args.s n (c.args.s.place + 1128) c.choose_from.result) tries
    (row-decided j c.args.s c.run.inside.0.0.retries c.coin-2.new.self.place (c.args.s.place + 1128) (word c.coin-2.new.self.seed c.coin-2.new.self.walker) c.choose_from.result own
    (omega (arith, one, two, place)) (c.choose_from.ensures.mode graph j (own-part c.args.part.now) goes) c.choose_from.ensures.inside)
