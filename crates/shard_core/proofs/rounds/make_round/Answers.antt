use Rattle.std.proofs.Common.{◌≡◌, ◌≤◌, ◌++◌, [], List, length, map, refl, ap, sym, subst, ◌∙◌}
use Rattle.std.specs.Prelude.{All}
use Rattle.std.specs.List.{filter_map}
use Rattle.std.proofs.lemmas.List.Elements.{All-append, All-map, All-nil}
use Rattle.walk_model.specs.declared.messages.Ask.{Ask}
use Rattle.query_batch.specs.Questions.{CanAnswer}
use Rattle.query_batch.specs.Replies.{reply_to}
use Rattle.vertex_partition.specs.PartViews.{PartView}
use Rattle.traveller.specs.declared.runs.Run.{Run}
use Rattle.traveller.specs.Walkers.{Walker}
use Rattle.walker_mail.specs.declared.parcels.Addressed.{Addressed}
use Rattle.world_law.specs.Items.{Item as Sent}
use Rattle.shard_core.specs.declared.hearing.Hearing.{Hearing}
use Rattle.shard_core.specs.declared.hearing.Offer.{Offer}
use Rattle.shard_core.specs.declared.items.Item.{Item}
use Rattle.shard_core.specs.declared.leaving.Left.{Left}
use Rattle.shard_core.specs.declared.rounds.Crowd.{Crowd}
use Rattle.shard_core.specs.declared.shards.Told.{Told}
use Rattle.shard_core.specs.Abreast.{IsReadyIn}
use Rattle.shard_core.specs.Crowds.{IsCrowd}
use Rattle.shard_core.specs.Items.{item_of}
use Rattle.shard_core.specs.KeptShards.{HasForm}
use Rattle.shard_core.specs.Offers.{IsHearing, ask_in, offer_in, offer_of, sent_home, walker_in}
use Rattle.shard_core.specs.SoundWorlds.{IsInFlight}
use Rattle.shard_core.specs.Taking.{Takes}
use Rattle.shard_core.proofs.ArriveLemmas.{asks-can, offers-form, replies-flight, walkers-ready}
use Rattle.shard_core.proofs.OfferLemmas.{tolds-form}
use Rattle.shard_core.proofs.RoundLemmas.{round-made}
use Rattle.shard_core.proofs.rounds.make_round.Goals as goal

pub answer_all-requires : goal.answer_all-requires
answer_all-requires g c =
    let run : Run = c.args.here.now.run in
    let p : PartView = c.args.here.now.part in
    let is : List Sent = map item_of c.args.arrivals.items in
    let takes : All (Takes run.vertices p) is = All-map (Takes run.vertices p) item_of c.args.arrivals.items c.requires.takes in
    rw (c.part-part.ensures, c.in_ok-walkers.ensures.asks) (asks-can run p is c.run-run.ensures.suits takes)

pub hear_each-requires-clause-forms : goal.hear_each-requires-clause-forms
hear_each-requires-clause-forms g c =
    let run : Run = c.args.here.now.run in
    let p : PartView = c.args.here.now.part in
    let is : List Sent = map item_of c.args.arrivals.items in
    let takes : All (Takes run.vertices p) is = All-map (Takes run.vertices p) item_of c.args.arrivals.items c.requires.takes in
    rw c.in_ok-walkers.ensures.offers
    (All-append (λ (o : Offer). HasForm o.told) (map offer_of c.args.crowd.aside.items) (filter_map offer_in is)
    (All-map (λ (o : Offer). HasForm o.told) offer_of c.args.crowd.aside.items c.requires.crowd.aside) (offers-form run.vertices p is takes))

pub turn_ready-requires-clause-ready : goal.turn_ready-requires-clause-ready
turn_ready-requires-clause-ready g c =
    let run : Run = c.args.here.now.run in
    let p : PartView = c.args.here.now.part in
    let is : List Sent = map item_of c.args.arrivals.items in
    let takes : All (Takes run.vertices p) is = All-map (Takes run.vertices p) item_of c.args.arrivals.items c.requires.takes in
    let hearing : Hearing = c.in_ok-offers.field-0 in
    let heard : IsHearing run p c.in_ok-walkers.field-0.offers.items c.args.crowd.waiting.items hearing = rw (c.run-run.ensures.run, c.part-part.ensures) at c.in_ok-offers.ensures in
    rw (c.in_ok-ready.ensures, c.in_ok-walkers.ensures.walkers)
    (All-append (IsReadyIn run p) (c.args.crowd.ready.items ++ filter_map walker_in is) hearing.ready.items
    (All-append (IsReadyIn run p) c.args.crowd.ready.items (filter_map walker_in is) c.requires.crowd.ready (walkers-ready run p is c.run-run.ensures.suits takes)) heard.ready)

pub turn_ready-requires-clause-left : goal.turn_ready-requires-clause-left
turn_ready-requires-clause-left g c =
    let run : Run = c.args.here.now.run in
    let p : PartView = c.args.here.now.part in
    let is : List Sent = map item_of c.args.arrivals.items in
    let takes : All (Takes run.vertices p) is = All-map (Takes run.vertices p) item_of c.args.arrivals.items c.requires.takes in
    let hearing : Hearing = c.in_ok-offers.field-0 in
    let heard : IsHearing run p c.in_ok-walkers.field-0.offers.items c.args.crowd.waiting.items hearing = rw (c.run-run.ensures.run, c.part-part.ensures) at c.in_ok-offers.ensures in
    let low : p.part ≤ length p.cuts = rw c.part-part.ensures at c.in_ok-out.ensures.part in
    let out : c.in_ok-out.out.items ≡ map (λ a. sent_home p.part (reply_to p.edges a)) (filter_map ask_in is) =
    rw (c.part-part.ensures, c.in_ok-walkers.ensures.asks) at c.in_ok-out.ensures.replies in
    record {
      waiting = heard.waiting;
      ended = c.requires.crowd.ended;
      out = rw out (replies-flight run.vertices p is low takes);
    }

pub returns-clause-crowd : goal.returns-clause-crowd
returns-clause-crowd g c =
    let run : Run = c.args.here.now.run in
    let p : PartView = c.args.here.now.part in
    let hearing : Hearing = c.in_ok-offers.field-0 in
    let heard : IsHearing run p c.in_ok-walkers.field-0.offers.items c.args.crowd.waiting.items hearing = rw (c.run-run.ensures.run, c.part-part.ensures) at c.in_ok-offers.ensures in
    record {
      ready = rw c.new.ensures.items (All-nil (IsReadyIn run p));
      waiting = c.in_ok-turn_ready.ensures.left.waiting;
      ended = c.in_ok-turn_ready.ensures.left.ended;
      aside = rw c.in_ok-aside.ensures (tolds-form hearing.offers.items heard.forms);
    }

pub returns-clause-round : goal.returns-clause-round
returns-clause-round g c =
    let run : Run = c.args.here.now.run in
    let p : PartView = c.args.here.now.part in
    let is : List Sent = map item_of c.args.arrivals.items in
    let takes : All (Takes run.vertices p) is = All-map (Takes run.vertices p) item_of c.args.arrivals.items c.requires.takes in
    let hearing : Hearing = c.in_ok-offers.field-0 in
    let heard : IsHearing run p c.in_ok-walkers.field-0.offers.items c.args.crowd.waiting.items hearing = rw (c.run-run.ensures.run, c.part-part.ensures) at c.in_ok-offers.ensures in
    let out : c.in_ok-out.out.items ≡ map (λ a. sent_home p.part (reply_to p.edges a)) (filter_map ask_in is) =
    rw (c.part-part.ensures, c.in_ok-walkers.ensures.asks) at c.in_ok-out.ensures.replies in
    let start : Left = record { waiting = hearing.waiting; ended = c.args.crowd.ended; out = c.in_ok-out.out } in
    let last : Left = c.turn_ready.new.left in
    let after : Crowd = record { ready = c.new.result; waiting = last.waiting; ended = last.ended; aside = c.in_ok-aside.aside } in
    round-made run p c.args.crowd after c.args.prints.now.prints c.turn_ready.new.prints.prints is hearing c.in_ok-ready.ready.items start last
    (record {
      suits = c.run-run.ensures.suits;
      crowd = c.requires.crowd;
      takes = takes;
      heard = subst (λ os. IsHearing run p os c.args.crowd.waiting.items hearing) c.in_ok-walkers.ensures.offers heard;
      ready_is = c.in_ok-ready.ensures ∙ ap (λ (ws : List Walker). (c.args.crowd.ready.items ++ ws) ++ hearing.ready.items) c.in_ok-walkers.ensures.walkers;
      waiting = refl;
      ended = refl;
      out = out;
      turned = c.in_ok-turn_ready.ensures.becomes;
      prints = c.in_ok-turn_ready.ensures.prints;
      none = c.new.ensures.items;
      still = refl;
      over = refl;
      aside = c.in_ok-aside.ensures;
      is_crowd = returns-clause-crowd g c;
    })
