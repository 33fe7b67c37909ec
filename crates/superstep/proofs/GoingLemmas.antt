-- One moment leads to another, and that to a third.
use Rattle.std.proofs.Common.{◌≡◌, ℕ, ◌+◌, ◌^◌, ◌<◌, ◌≤◌, Bool, true, false, cond, List, [], ◌++◌, map, length, refl, ap, sym, ◌∙◌, arith, None, Some, length-append}
use Rattle.std.specs.Prelude.{Option, option_map, sum_by, ◌==◌}
use Rattle.std.proofs.lemmas.List.{append-nil, append_assoc, length-map}
use Rattle.std.proofs.lemmas.List.Elements.{All-nil, All-append, filter-append}
use Rattle.std.proofs.lemmas.List.Sums.{sum_by-le-sum_by}
use Rattle.walk_model.specs.declared.messages.Letter.{Letter}
use Rattle.csr_store.specs.RowGraph.{RowGraph}
use Rattle.traveller.specs.declared.runs.Run.{Run}
use Rattle.traveller.specs.PartedRuns.{PartedRun}
use Rattle.traveller.specs.Standing.{parted}
use Rattle.world_law.specs.Items.{Item as Sent, Travels, Asks, Replies, letter_of}
use Rattle.world_law.specs.LettersAhead.{item_of, item_ahead, piece_ahead, count_ahead, of_come, of_gone}
use Rattle.shard_core.specs.Taking.{FitsAmong}
use Rattle.superstep.specs.Carried.{of_one, count_letters}
use Rattle.superstep.specs.Moments.{Moment, moment, pieces_of, Stands, not_posted, all_ahead, LeadsTo, Passes, IsGoing}
use Rattle.superstep.proofs.SumLemmas.{sum_below-add, sum_below-fewer, length-of_one, items-below}
use Rattle.superstep.proofs.MomentLemmas.{pieces-sum, items-known, post-leads}

-- one thing after another
pub leads-then : (g : RowGraph) (run : Run) (cuts : List ℕ) (n m : ℕ) (ls ks : List Letter) (a b c : Moment) → LeadsTo g run cuts n ls a b
    → LeadsTo g run cuts m ks b c → LeadsTo g run cuts (n + m) (ls ++ ks) a c
leads-then g run cuts n m ls ks a b c l k =
    let p : PartedRun = parted g run cuts in
    record {
      stands = k.stands;
      each = λ i low.
          ap (λ x. x ++ not_posted p (pieces_of c) i) (filter-append (λ (x : Letter). x.walker == i) ls ks)
          ∙ append_assoc (of_one i ls) (of_one i ks) (not_posted p (pieces_of c) i)
          ∙ ap (λ x. of_one i ls ++ x) (k.each i low) ∙ l.each i low;
      alone = All-append (λ (x : Letter). x.walker < p.walkers) ls ks l.alone k.alone;
      fewer = (let first = l.fewer in let next = k.fewer in omega arith);
    }

told-more : (ls ks : List Letter) (o : Option (List Letter))
    → option_map (λ told. told ++ ks) (option_map (λ told. told ++ ls) o) ≡ option_map (λ told. told ++ (ls ++ ks)) o
told-more ls ks None = refl
told-more ls ks (Some told) = ap Some (append_assoc told ls ks)

pub told-none : (o : Option (List Letter)) → o ≡ option_map (λ told. told ++ []) o
told-none None = refl
told-none (Some told) = ap Some (sym (append-nil told))

pub passes-then : (n m : ℕ) (a b c : Moment) → Passes n a b → Passes m b c → Passes (n + m) a c
passes-then n m a b c f s = record {
  letters = f.letters ++ s.letters;
  carried = (let first = f.carried in let next = s.carried in omega (arith, length-append f.letters s.letters));
  logged = s.logged ∙ ap (option_map (λ told. told ++ s.letters)) f.logged ∙ told-more f.letters s.letters a.log;
  leads = λ g run cuts stands.
      let first = f.leads g run cuts stands in
      leads-then g run cuts n m f.letters s.letters a b c first (s.leads g run cuts first.stands);
}

-- a moment leads to itself
pub passes-none : (a : Moment) → Passes 0 a a
passes-none a = record {
  letters = [];
  carried = omega arith;
  logged = told-none a.log;
  leads = λ g run cuts stands. record {
    stands = stands;
    each = λ i low. refl;
    alone = All-nil (λ (x : Letter). x.walker < (parted g run cuts).walkers);
    fewer = omega arith;
  };
}

-- what is posted is as many letters as fewer are left to post
pub leads-count : (g : RowGraph) (run : Run) (cuts : List ℕ) (n : ℕ) (ls : List Letter) (a b : Moment) → LeadsTo g run cuts n ls a b
    → length ls + count_letters (parted g run cuts).walkers (not_posted (parted g run cuts) (pieces_of b))
    ≡ count_letters (parted g run cuts).walkers (not_posted (parted g run cuts) (pieces_of a))
leads-count g run cuts n ls a b l =
    let p : PartedRun = parted g run cuts in
    let all = length-of_one p.walkers ls l.alone in
    let sums = sum_below-add p.walkers (λ i. length (of_one i ls)) (λ i. length (not_posted p (pieces_of b) i)) (λ i. length (not_posted p (pieces_of a) i))
    (λ i low. sym (length-append (of_one i ls) (not_posted p (pieces_of b) i)) ∙ ap length (l.each i low)) in
    omega arith

-- a run goes on from where it can
pub going-on : (n : ℕ) (a b : Moment) → IsGoing a → Passes n a b → IsGoing b
going-on n a b h f =
    let l = f.leads h.graph h.run h.cuts h.stands in
    let count = leads-count h.graph h.run h.cuts n f.letters a b l in
    record {
      graph = h.graph;
      run = h.run;
      cuts = h.cuts;
      stands = l.stands;
      room = (let room = h.room in let carried = f.carried in omega arith);
      few = (let few = h.few in let fewer = l.fewer in omega arith);
    }

-- what is given out can be posted and counted
pub room-given : (m : Moment) → IsGoing m → m.carried + length m.given < 2 ^ 64
room-given m h =
    let p : PartedRun = parted h.graph h.run h.cuts in
    let after : Moment = moment m.shards [] (m.held ++ m.given) m.carried m.log in
    let l : LeadsTo h.graph h.run h.cuts 0 (map letter_of m.given) m after =
    post-leads h.graph h.run h.cuts m.shards m.given m.held (m.held ++ m.given) m.given m.carried m.carried m.log m.log h.stands
    (λ w. refl) (λ w. refl) (All-append (FitsAmong h.run.vertices h.cuts) m.held m.given h.stands.held h.stands.given) in
    let count = leads-count h.graph h.run h.cuts 0 (map letter_of m.given) m after l in
    let room = h.room in
    omega (arith, length-map m.given letter_of)

-- an item stands for a letter at least
item-some : (g : PartedRun) (i : ℕ) (m : Sent) → item_of i m ≤ item_ahead g i m
item-some g i (Travels v from to) = omega arith
item-some g i (Asks ask to) = twice (ask.walker == i)
  where
    twice : (b : Bool) → ◌≤◌ (cond b 1 0) (cond b 2 0)
    twice true = omega arith
    twice false = omega arith
item-some g i (Replies reply from) = omega arith

-- what is held is no more than the letters that are still to come
pub held-few : (g : RowGraph) (run : Run) (cuts : List ℕ) (m : Moment) → Stands g run cuts m
    → length m.held ≤ all_ahead (parted g run cuts) (pieces_of m)
held-few g run cuts m stands =
    let p : PartedRun = parted g run cuts in
    let come : (i : ℕ) → sum_by (item_of i) m.held ≤ sum_by (of_come i) (pieces_of m) + sum_by (of_gone i) (pieces_of m) =
    λ i. omega (arith, pieces-sum (of_come i) m) in
    let known = items-known p m.held (pieces_of m) stands.sound come in
    let each : (i : ℕ) → sum_by (item_of i) m.held + 0 ≤ count_ahead p i (pieces_of m) =
    λ i. omega (arith, pieces-sum (piece_ahead p i) m, sum_by-le-sum_by (item_of i) (item_ahead p i) m.held (item-some p i)) in
    let sums = sum_below-fewer p.walkers (λ i. sum_by (item_of i) m.held) (λ i. 0) (λ i. count_ahead p i (pieces_of m)) each in
    omega (arith, items-below p.walkers m.held known)

-- the letters that have been taken in are no more than those that there were
pub taken-few : (n : ℕ) (a b : Moment) → IsGoing a → Passes n a b → n < 2 ^ 63
taken-few n a b h f =
    let l = f.leads h.graph h.run h.cuts h.stands in
    let few = h.few in
    let fewer = l.fewer in
    omega arith

pub going-held : (m : Moment) → IsGoing m → length m.held < 2 ^ 63
going-held m h =
    let few = h.few in
    omega (arith, held-few h.graph h.run h.cuts m h.stands)

-- what was ever posted can be counted
pub going-carried : (m : Moment) → IsGoing m → m.carried < 2 ^ 64
going-carried m h =
    let room = h.room in
    omega arith

-- fewer letters were taken in at least
pub passes-fewer : (n m : ℕ) (a b : Moment) → m ≤ n → Passes n a b → Passes m a b
passes-fewer n m a b less f = record {
  letters = f.letters;
  carried = f.carried;
  logged = f.logged;
  leads = λ g run cuts stands.
      let l = f.leads g run cuts stands in
      record { stands = l.stands; each = l.each; alone = l.alone; fewer = (let fewer = l.fewer in omega arith) };
}
