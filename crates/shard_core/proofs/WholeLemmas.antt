-- All walks of a run, by their prints.
use Rattle.std.proofs.Common.{◌≡◌, ◌<◌, ◌≤◌, ◌+◌, ◌^◌, ◌∷◌, [], ◌++◌, ℕ, zero, suc, List, length, map, append_assoc, Option, Some, None, refl, ap, sym, ◌∙◌, arith}
use Rattle.std.proofs.lemmas.List.{append-nil, map-append, length-append, length-map}
use Rattle.walk_model.specs.declared.states.State.{State}
use Rattle.walk_model.specs.Course.{Course}
use Rattle.walk_model.specs.Numbers.{below}
use Rattle.walk_model.specs.Prints.{prints_from}
use Rattle.walk_model.specs.Walk.{entry_and, entries_after, first_state, next_state}
use Rattle.traveller.specs.PartedRuns.{PartedRun, journey_in, walk_in}
use Rattle.shard_core.specs.Abreast.{first_prints}
use Rattle.shard_core.specs.Gathered.{prints_since, all_prints}

-- the prints of one walk more
since-more : (w : ℕ) (walks : List (List ℕ)) (walk : List ℕ)
    → prints_since w (walks ++ walk ∷ []) ≡ prints_since w walks ++ prints_from (w + length walks) 0 walk
unfolding prints_since
since-more w [] walk =
    let here : w + 0 ≡ w = omega arith in
    append-nil (prints_from w 0 walk) ∙ ap (λ n. prints_from n 0 walk) (sym here)
since-more w (x ∷ xs) walk =
    let shift : suc w + length xs ≡ w + suc (length xs) = omega arith in
    ap (λ ps. prints_from w 0 x ++ ps) (since-more (suc w) xs walk)
    ∙ sym (append_assoc (prints_from w 0 x) (prints_since (suc w) xs) (prints_from (suc w + length xs) 0 walk))
    ∙ ap (λ n. (prints_from w 0 x ++ prints_since (suc w) xs) ++ prints_from n 0 walk) shift

pub length-below : (n : ℕ) → length (below n) ≡ n
unfolding below
length-below zero = refl
length-below (suc n) = length-append (below n) (n ∷ []) ∙ (let rest = length-below n in omega (arith, rest))

-- the prints of the first walkers are those of their walks
pub first-all : (g : PartedRun) (n : ℕ) → first_prints g n ≡ all_prints (map (walk_in g) (below n))
unfolding first_prints below prints_since
first-all g zero = refl
first-all g (suc n) =
    let many : 0 + length (map (walk_in g) (below n)) ≡ n = (let long = length-map (below n) (walk_in g) ∙ length-below n in omega (arith, long)) in
    ap (λ ps. ps ++ prints_from n 0 (walk_in g n)) (first-all g n)
    ∙ ap (λ k. all_prints (map (walk_in g) (below n)) ++ prints_from k 0 (walk_in g n)) (sym many)
    ∙ sym (since-more 0 (map (walk_in g) (below n)) (walk_in g n))
    ∙ ap all_prints (sym (map-append (walk_in g) (below n) (n ∷ [])))

-- a walk has at most one entry more than it may have steps
entry-most : (n : ℕ) (later : State → List ℕ) (o : Option State) → ((t : State) → length (later t) ≤ n) → length (entry_and o later) ≤ suc n
entry-most n later None most = omega arith
entry-most n later (Some t) most = let rest = most t in omega (arith, rest)

entries-most : (n : ℕ) (c : Course) (s : State) → length (entries_after n c s) ≤ n
unfolding entries_after
entries-most zero c s = omega arith
entries-most (suc n) c s = entry-most n (entries_after n c) (next_state c s) (entries-most n c)

-- a walk has an entry, and not too many
pub walk-sized : (g : PartedRun) (i : ℕ) → g.plan.length < 2 ^ 32 → (1 ≤ length (walk_in g i)) × (length (walk_in g i) ≤ 2 ^ 32)
walk-sized g i short =
    (omega arith, (let most = entries-most g.plan.length (journey_in g i).course (first_state (journey_in g i).course.start) in omega (arith, most, short)))
