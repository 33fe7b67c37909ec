use Rattle.std.proofs.Common.{◌≡◌, ap, sym, subst, ◌∙◌}
use Rattle.std.proofs.lemmas.Option.{same_Some}
use Rattle.walk_model.specs.Graph.{row}
use Rattle.walk_model.specs.Dart.{board_of, hit, scanned}
use Rattle.walk_model.specs.Letters.{Journey}
use Rattle.walk_model.specs.Words.{word}
use Rattle.vertex_partition.specs.PartViews.{Owns}
use Rattle.walker_stream.specs.Standing.{Standing, standing}
use Rattle.traveller.specs.declared.modes.Mode.TheVariants.{Asked, AskedRow}
use Rattle.traveller.specs.declared.runs.Run.{Run}
use Rattle.traveller.specs.Askers.{IsAsker}
use Rattle.traveller.specs.Replies.{edge_mode, hear, told_board}
use Rattle.traveller.specs.Standing.{IsPossible, StandsIn, journey_on, own_graph, parted}
use Rattle.traveller.specs.Turns.{asker_at, board_at, chosen_or_over}
use Rattle.traveller.specs.Walkers.{Walker, asked_vertex, question_of}
use Rattle.node2vec_walk.specs.Destinations.{is_among}
use Rattle.traveller.proofs.HearLemmas.{AsksEdge, AsksRow, AsksOn, asks-edge, asks-row, asks-on, hears-edge, hears-row}
use Rattle.traveller.proofs.travellers.Traveller.hear.Goals as goal

pub returns-in-Asked-clause-data : goal.returns-in-Asked-clause-data
returns-in-Asked-clause-data c = λ graph of.
    let w : Walker = record { number = c.self.inside.number; start = c.self.inside.start; length = c.self.inside.length; state = c.self.inside.state; mode = c.self.inside.mode } in
    let stands : StandsIn c.args.run.now c.args.part.now w = subst (StandsIn c.args.run.now c.args.part.now) (sym c.self.view_is) c.requires.stands in
    let j : Journey = journey_on (own_graph c.args.part.now) c.args.run.now c.args.part.now.cuts w in
    let can : IsPossible c.args.run.now c.args.part.now w (Asked c.in-Asked.left c.in-Asked.place c.in-Asked.question) = subst (IsPossible c.args.run.now c.args.part.now w) c.in-Asked.is stands.possible in
    let who : AsksEdge (asker_at j w.state) c.in-Asked.question =
    asks-edge (asker_at j w.state) (board_at j w.state) (j.course.words c.in-Asked.place) c.in-Asked.question can.2 in
    let on : AsksOn graph c.args.run.now c.args.part.now w who.a.before = asks-on graph c.args.run.now c.args.part.now w who.a who.is in
    let back : c.asked.result ≡ who.a.before = c.asked.ensures ∙ ap asked_vertex who.asks in
    let asks : IsAsker graph c.args.run.now.plan w.state c.asked.result on.a = subst (λ t. IsAsker graph c.args.run.now.plan w.state t on.a) (sym back) on.is in
    let own : c.args.reply.now.ask.question ≡ c.in-Asked.question =
    sym (same_Some c.in-Asked.question c.args.reply.now.ask.question (sym (ap question_of c.in-Asked.is) ∙ ap (λ (v : Walker). question_of v.mode) c.self.view_is ∙ c.requires.waits)) in
    let reader : c.reader_with-reader.result ≡ standing c.args.run.now.seed w.number c.in-Asked.place = c.reader_with-reader.ensures ∙ ap (λ k. standing k w.number c.in-Asked.place) (ap (λ (r : Run). r.seed) c.run.view_is) in
    let comes = c.hear_edge-self-inside.ensures.mode graph on.a of asks
    ∙ ap (λ (r : Standing). edge_mode (hit (told_board on.a (board_of graph.edges c.args.run.now.plan w.state (row graph.edges w.state.at)) (λ x. c.told_near-near.result)) (word r.seed r.walker r.place)) c.in-Asked.left r.place) reader in
    subst (λ (v : Walker). record w { mode = c.hear_edge-self-inside.result } ≡ hear (parted graph c.args.run.now c.args.part.now.cuts) v c.args.reply.now.found) c.self.view_is
    (hears-edge graph c.args.run.now c.args.part.now w c.in-Asked.left c.in-Asked.place c.in-Asked.question c.args.reply.now.found c.told_near-near.result on.a c.hear_edge-self-inside.result
    c.in-Asked.is on.at (λ x. c.told_near-near.ensures who.a.before who.x x (own ∙ who.asks)) comes)

pub returns-in-AskedRow-clause-data : goal.returns-in-AskedRow-clause-data
returns-in-AskedRow-clause-data c = λ graph of.
    let w : Walker = record { number = c.self.inside.number; start = c.self.inside.start; length = c.self.inside.length; state = c.self.inside.state; mode = c.self.inside.mode } in
    let stands : StandsIn c.args.run.now c.args.part.now w = subst (StandsIn c.args.run.now c.args.part.now) (sym c.self.view_is) c.requires.stands in
    let j : Journey = journey_on (own_graph c.args.part.now) c.args.run.now c.args.part.now.cuts w in
    let can : IsPossible c.args.run.now c.args.part.now w (AskedRow c.in-AskedRow.place c.in-AskedRow.question) = subst (IsPossible c.args.run.now c.args.part.now w) c.in-AskedRow.is stands.possible in
    let who : AsksRow (asker_at j w.state) c.in-AskedRow.question = asks-row (asker_at j w.state) c.in-AskedRow.question can.1 in
    let on : AsksOn graph c.args.run.now c.args.part.now w who.a.before = asks-on graph c.args.run.now c.args.part.now w who.a who.is in
    let back : c.asked-in-AskedRow.result ≡ who.a.before = c.asked-in-AskedRow.ensures ∙ ap asked_vertex who.asks in
    let asks : IsAsker graph c.args.run.now.plan w.state c.asked-in-AskedRow.result on.a = subst (λ t. IsAsker graph c.args.run.now.plan w.state t on.a) (sym back) on.is in
    let own : c.args.reply.now.ask.question ≡ c.in-AskedRow.question =
    sym (same_Some c.in-AskedRow.question c.args.reply.now.ask.question (sym (ap question_of c.in-AskedRow.is) ∙ ap (λ (v : Walker). question_of v.mode) c.self.view_is ∙ c.requires.waits)) in
    let reader : c.reader_with-words.result ≡ standing c.args.run.now.seed w.number c.in-AskedRow.place = c.reader_with-words.ensures ∙ ap (λ k. standing k w.number c.in-AskedRow.place) (ap (λ (r : Run). r.seed) c.run.view_is) in
    let comes = c.hear_row-self-inside.ensures.mode graph on.a of asks
    ∙ ap (λ (r : Standing). chosen_or_over (scanned (told_board on.a (board_of graph.edges c.args.run.now.plan w.state (row graph.edges w.state.at)) (is_among c.told_ends-ends.result.now)) (word r.seed r.walker) r.place)) reader in
    subst (λ (v : Walker). record w { mode = c.hear_row-self-inside.result } ≡ hear (parted graph c.args.run.now c.args.part.now.cuts) v c.args.reply.now.found) c.self.view_is
    (hears-row graph c.args.run.now c.args.part.now w c.in-AskedRow.place c.in-AskedRow.question c.args.reply.now.found (is_among c.told_ends-ends.result.now) on.a c.hear_row-self-inside.result
    c.in-AskedRow.is on.at (λ x. c.told_ends-ends.ensures.near who.a.before x (own ∙ who.asks)) comes)

pub hear_edge-self-inside-requires-clause-fits : goal.hear_edge-self-inside-requires-clause-fits
hear_edge-self-inside-requires-clause-fits c =
    let w : Walker = record { number = c.self.inside.number; start = c.self.inside.start; length = c.self.inside.length; state = c.self.inside.state; mode = c.self.inside.mode } in
    let stands : StandsIn c.args.run.now c.args.part.now w = subst (StandsIn c.args.run.now c.args.part.now) (sym c.self.view_is) c.requires.stands in
    let here : Owns c.args.part.now w.state.at = record { below = stands.within.at; owner_is = stands.owned } in
    stands.suits.fits w.state.at here

pub hear_row-self-inside-requires-clause-fits : goal.hear_row-self-inside-requires-clause-fits
hear_row-self-inside-requires-clause-fits c =
    let w : Walker = record { number = c.self.inside.number; start = c.self.inside.start; length = c.self.inside.length; state = c.self.inside.state; mode = c.self.inside.mode } in
    let stands : StandsIn c.args.run.now c.args.part.now w = subst (StandsIn c.args.run.now c.args.part.now) (sym c.self.view_is) c.requires.stands in
    let here : Owns c.args.part.now w.state.at = record { below = stands.within.at; owner_is = stands.owned } in
    stands.suits.fits w.state.at here
