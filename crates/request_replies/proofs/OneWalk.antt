-- A walker that goes on to its end, and the entries of its walk.
use Rattle.std.proofs.Common.{◌≡◌, ◌<◌, ◌≤◌, ◌+◌, ℕ, zero, suc, true, false, List, [], ◌∷◌, ◌++◌, map, Some, None, Option, inl, inr, refl, ap, sym, subst, ◌∙◌, append_assoc, arith}
use Rattle.std.specs.Prelude.{◌-◌, slice_index, nat_lt, if◌then◌else◌}
use Rattle.std.proofs.lemmas.List.{map-append, append-nil}
use Rattle.walk_model.specs.declared.results.Print.{Print}
use Rattle.walk_model.specs.declared.states.State.{State}
use Rattle.walk_model.specs.Course.{Course, course}
use Rattle.walk_model.specs.Prints.{prints_from}
use Rattle.walk_model.specs.Walk.{first_state, next_state, entries_after, walk}
use Rattle.walk_model.specs.Words.{word}
use Rattle.vertex_partition.specs.PartViews.{PartView}
use Rattle.traveller.specs.declared.modes.Mode.{Mode}
use Rattle.traveller.specs.declared.modes.Mode.TheVariants.{Fresh, Darts, Asked, AskedRow, Chosen, Over}
use Rattle.traveller.specs.declared.runs.Run.{Run}
use Rattle.traveller.specs.Ahead.{left_print, ahead_from, prints_ahead}
use Rattle.traveller.specs.Heres.{Here}
use Rattle.traveller.specs.Standing.{own_graph, journey_on}
use Rattle.traveller.specs.Turns.{stepped}
use Rattle.traveller.specs.Walkers.{Walker, first_walker, is_over}
use Rattle.traveller.proofs.StepLaws.{ahead-step}
use Rattle.shard_core.specs.Abreast.{OwnsAll, IsOnWay, IsBetween, Turns}
use Rattle.shard_core.proofs.AbreastLemmas.{own-part, turn-step}
use Rattle.request_replies.specs.PartWalks.{ids_of, rank_walk}

-- what a walk of a stream from a rank goes by
abbrev pub course_here : Here → ℕ → ℕ → Course
course_here here stream rank = course here.part.edges here.run.plan (word here.run.seed stream) rank

-- a walker on its way or at its end, and the ids of the entries so far: with those that are ahead, they are the walk
pub record GoesOn (names : List ℕ) (here : Here) (stream rank most : ℕ) (ids : List ℕ) (w : Walker) : Type 0 where
  pub number : w.number ≡ stream
  pub start : w.start ≡ rank
  pub between : IsBetween here.run here.part w
  pub so_far : ids ++ ids_of names (prints_ahead (course_here here stream rank) w) ≡ map (slice_index names) (rank_walk here stream rank most)

-- the ids in the prints of some entries
ids-from : (names : List ℕ) (n k : ℕ) (xs : List ℕ) → ids_of names (prints_from n k xs) ≡ map (slice_index names) xs
unfolding prints_from
ids-from names n k [] = refl
ids-from names n k (x ∷ xs) = ap (λ l. slice_index names x ∷ l) (ids-from names n (k + 1) xs)

-- a walker at its start
pub goes-first : (names : List ℕ) (here : Here) (stream rank most : ℕ) (ids : List ℕ) (w : Walker) → IsOnWay here.run here.part w
    → w ≡ first_walker stream rank most → ids ≡ slice_index names rank ∷ [] → GoesOn names here stream rank most ids w
goes-first names here stream rank most ids w way first one =
    let c : Course = course_here here stream rank in
    let whole : most - 0 ≡ most = omega arith in
    record {
      number = ap (λ v. v.number) first;
      start = ap (λ v. v.start) first;
      between = inr way;
      so_far = ap (λ l. l ++ ids_of names (prints_ahead c w)) one
          ∙ ap (λ v. slice_index names rank ∷ ids_of names (prints_ahead c v)) first
          ∙ ap (λ n. slice_index names rank ∷ ids_of names (prints_from stream 1 (entries_after n c (first_state rank)))) whole
          ∙ ap (λ l. slice_index names rank ∷ l) (ids-from names stream 1 (entries_after most c (first_state rank)));
    }

stepped-number : (a : Walker) (o : Option State) → (stepped a o).number ≡ a.number
stepped-number a None = refl
stepped-number a (Some t) = refl

stepped-start : (a : Walker) (o : Option State) → (stepped a o).start ≡ a.start
stepped-start a None = refl
stepped-start a (Some t) = refl

-- one turn more
pub goes-more : (names : List ℕ) (here : Here) (stream rank most : ℕ) (ids next : List ℕ) (a c : Walker) → OwnsAll here.part
    → GoesOn names here stream rank most ids a → IsOnWay here.run here.part a → Turns here.run here.part a c
    → IsBetween here.run here.part c → next ≡ ids ++ ids_of names (left_print c) → GoesOn names here stream rank most next c
goes-more names here stream rank most ids next a c all on way turns between more =
    let k : Course = course_here here stream rank in
    let own : Course = (journey_on (own_graph here.part) here.run here.part.cuts a).course in
    let same : own ≡ k =
    ap (λ n. course here.part.edges here.run.plan (word here.run.seed n) a.start) on.number
    ∙ ap (λ s. course here.part.edges here.run.plan (word here.run.seed stream) s) on.start in
    let o : Option State = if nat_lt a.state.steps a.length then next_state own a.state else None in
    let is : c ≡ stepped a o = turn-step (own_graph here.part) here.run here.part a c (own-part here.part) all way turns in
    let ahead : prints_ahead k a ≡ left_print c ++ prints_ahead k c =
    subst (λ (d : Course). prints_ahead d a ≡ left_print c ++ prints_ahead d c) same (ahead-step own a c way.fresh is) in
    record {
      number = ap (λ v. v.number) is ∙ stepped-number a o ∙ on.number;
      start = ap (λ v. v.start) is ∙ stepped-start a o ∙ on.start;
      between = between;
      so_far = ap (λ l. l ++ ids_of names (prints_ahead k c)) more
          ∙ append_assoc ids (ids_of names (left_print c)) (ids_of names (prints_ahead k c))
          ∙ ap (λ l. ids ++ l) (sym (map-append (λ (p : Print). slice_index names p.at) (left_print c) (prints_ahead k c)))
          ∙ ap (λ l. ids ++ ids_of names l) (sym ahead) ∙ on.so_far;
    }

none-ahead : (c : Course) (w : Walker) (m : Mode) → is_over m ≡ true → ahead_from c w m ≡ []
none-ahead c w Fresh e = absurd (cc)
none-ahead c w (Darts left place) e = refl
none-ahead c w (Asked left place question) e = refl
none-ahead c w (AskedRow place question) e = refl
none-ahead c w (Chosen edge place) e = refl
none-ahead c w Over e = refl

-- a walker at its end
pub goes-end : (names : List ℕ) (here : Here) (stream rank most : ℕ) (ids : List ℕ) (w : Walker) → GoesOn names here stream rank most ids w
    → is_over w.mode ≡ true → ids ≡ map (slice_index names) (rank_walk here stream rank most)
goes-end names here stream rank most ids w on over =
    sym (ap (λ l. ids ++ ids_of names l) (none-ahead (course_here here stream rank) w w.mode over) ∙ append-nil ids) ∙ on.so_far
