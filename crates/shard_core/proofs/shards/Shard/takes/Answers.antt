use Rattle.std.proofs.Common.{rules, arith, ap, sym, subst, ◌∙◌, ◌≡◌, ◌<◌, [], true, IsTrue, Some, length, slice_get, sum_by, ℕ, ◌+◌, ◌-◌, ◌*◌, ◌≤◌, ◌/◌, ◌%◌, Bool, false, nat_eq, nat_lt, List, ◌∷◌, ◌++◌, slice_index_or, slice_set, bit_and, bit_or, Fits, w8, w32, w64, Bor, MutBor}
use Rattle.query_batch.specs.Numbers.{IsWithin as IsAskedWithin}
use Rattle.traveller.specs.declared.modes.Mode.TheVariants.{Fresh}
use Rattle.traveller.specs.Replies.{Answers}
use Rattle.traveller.specs.Standing.{IsWithin, Suits}
use Rattle.vertex_partition.specs.PartViews.{Owns}
use Rattle.world_law.specs.Finishing.{unfinished}
use Rattle.shard_core.specs.Items.{item_of}
use Rattle.shard_core.specs.Taking.{Takes}
use Rattle.shard_core.proofs.shards.Shard.takes.Goals as goal
use Rattle.traveller.specs.Walkers.{asked_vertex}
use Rattle.shard_core.specs.Shards.{ShardView}
use Rattle.shard_core.specs.Taking.{Suited}
use Rattle.shard_core.proofs.ShardLemmas.{takes-by, asked-owned, owned-asked}

-- src/shards.rt:150:5
pub returns-in-Walker-clause-yes : goal.returns-in-Walker-clause-yes
returns-in-Walker-clause-yes c = λ holds. takes-by _ _ _ _ _ _ c.letter-letter.ensures (c.part.ensures.part ∙ ap (λ (s : ShardView). s.part.part) c.self.view_is)
    (c.parts.ensures.parts ∙ ap (λ (s : ShardView). length s.part.cuts + 1) c.self.view_is)
    (omega (arith, c.if-letter-part.false)) (omega (arith, c.if-letter-parts.false))
    (subst (λ i. Suited c.args.self.now.run.vertices c.args.self.now.part (item_of i)) (sym c.in-Walker.is) (c.takes_walker.ensures.yes holds))

pub returns-in-Walker-clause-no : goal.returns-in-Walker-clause-no
returns-in-Walker-clause-no c = λ t. c.takes_walker.ensures.no
    (subst (λ i. Suited c.args.self.now.run.vertices c.args.self.now.part (item_of i)) c.in-Walker.is t.suited)

pub returns-then-is_asked_within-clause-yes : goal.returns-then-is_asked_within-clause-yes
returns-then-is_asked_within-clause-yes c = λ holds.
    (let within = c.is_asked_within.ensures.yes c.if-is_asked_within.true in
    let owns = asked-owned _ c.self.inside.part c.in-Ask.ask.question _ _ c.self.invariant.suits.vertices within c.asked_of.ensures c.owns.ensures holds in
    takes-by _ _ _ _ _ _ c.letter-letter.ensures (c.part.ensures.part ∙ ap (λ (s : ShardView). s.part.part) c.self.view_is)
    (c.parts.ensures.parts ∙ ap (λ (s : ShardView). length s.part.cuts + 1) c.self.view_is)
    (omega (arith, c.if-letter-part.false)) (omega (arith, c.if-letter-parts.false))
    (subst (λ i. Suited c.args.self.now.run.vertices c.args.self.now.part (item_of i)) (sym c.in-Ask.is)
    (subst (λ (s : ShardView). IsAskedWithin s.run.vertices c.in-Ask.ask.question × Owns s.part (asked_vertex c.in-Ask.ask.question)) c.self.view_is (within, owns))))

pub returns-then-is_asked_within-clause-no : goal.returns-then-is_asked_within-clause-no
returns-then-is_asked_within-clause-no c = λ t.
    (let suits : IsAskedWithin c.args.self.now.run.vertices c.in-Ask.ask.question × Owns c.args.self.now.part (asked_vertex c.in-Ask.ask.question) =
    subst (λ i. Suited c.args.self.now.run.vertices c.args.self.now.part (item_of i)) c.in-Ask.is t.suited in
    owned-asked c.self.inside.part c.in-Ask.ask.question _ _ c.asked_of.ensures c.owns.ensures
    (subst (λ (s : ShardView). Owns s.part (asked_vertex c.in-Ask.ask.question)) (sym c.self.view_is) suits.1))
