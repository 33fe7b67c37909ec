use Rattle.std.proofs.Common.{◌≡◌, ◌<◌, ◌≤◌, ◌-◌, ℕ, length, get_or}
use Rattle.shard_core.specs.declared.hearing.Offer.{Offer}
use Rattle.shard_core.specs.Offers.{open_weight, answer_count, asker_of}
use Rattle.shard_core.proofs.hearing.find_offer.Given as goal

abbrev pub invariant-finding : goal.invariant-finding
invariant-finding l = record {
  within : l.place ≤ length l.offers;
  closed : (k : ℕ) (d : Offer) → k < l.place → k < length l.offers → open_weight (answer_count l.ask) (get_or l.offers k d) ≡ 0;
  behind : (k : ℕ) (d : Offer) → l.place ≤ k → k < length l.offers → l.ask.walker ≤ asker_of (get_or l.offers k d);
}

abbrev pub decreases-finding : goal.decreases-finding
decreases-finding l = length l.offers - l.place
