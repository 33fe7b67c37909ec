use Rattle.std.proofs.Common.{map, sym, subst}
use Rattle.std.specs.Prelude.{All, List}
use Rattle.std.specs.List.Sorted.{IsPermutation}
use Rattle.std.proofs.lemmas.List.Sorted.{IsPermutation-map}
use Rattle.walker_mail.specs.Posts.{all_items, sent_from}
use Rattle.shard_core.specs.declared.items.Item.{Item}
use Rattle.superstep.specs.Boxes.{addressed_of}
use Rattle.superstep.specs.Rounding.{Reaches, RoundIs}
use Rattle.superstep.proofs.BoxLemmas.{addressed-sent}
use Rattle.superstep.proofs.seats.take_turn.Goals as goal

pub round_of_shard-requires-clause-reached : goal.round_of_shard-requires-clause-reached
round_of_shard-requires-clause-reached c =
    subst (All (Reaches c.args.seat.shard)) (sym c.in_ok-arrivals.ensures) c.requires.reached

pub returns : goal.returns
returns c =
    let out = c.in_ok-out.out.items in
    record {
      out = out;
      round = subst (λ (l : List Item). RoundIs c.args.seat.shard l c.round_of_shard.new.shard out) c.in_ok-arrivals.ensures c.in_ok-out.ensures.made;
      packed =
          subst (λ l. IsPermutation l (map addressed_of (all_items c.in_ok-parcels.parcels.items))) (addressed-sent c.part.result out)
          (IsPermutation-map addressed_of (sent_from c.part.result out) (all_items c.in_ok-parcels.parcels.items) c.in_ok-parcels.ensures.all);
      whole = c.in_ok-out.ensures.whole;
    }
