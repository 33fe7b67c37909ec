-- How the walks come out of the beginnings and the entries.
use Rattle.std.proofs.Common.{◌≡◌, ℕ, suc, ◌+◌, ◌<◌, ◌≤◌, List, [], ◌∷◌, ◌++◌, length, get_or, take, drop, map, sum, All, refl, sym, ap, ◌∙◌, arith}
use Rattle.std.specs.List.{concat}
use Rattle.std.specs.List.Sorted.{IsStrictlyIncreasing}
use Rattle.std.proofs.Math.Seq.{take-append_seam}
use Rattle.std.proofs.lemmas.List.{take_more, map-append, length-append}
use Rattle.std.proofs.lemmas.List.Elements.{All-map}
use Rattle.std.proofs.lemmas.List.Sums.{sum_by-cons, sum_by-append}
use Rattle.walk_model.specs.declared.results.Print.{Print}
use Rattle.walk_model.specs.Beginnings.{begins_from, walks_at}
use Rattle.walk_model.proofs.BeginningLaws.{begins_from-more, begins_from-first, begins_from-rise, begins_from-below, walks_at-concat}
use Rattle.shard_core.specs.Gathered.{AreAllPrints, put_all}
use Rattle.shard_core.proofs.GatherLemmas.{gathered}

-- walks that have an entry each begin as `Finished` asks
pub first-place : (counts begins : List ℕ) (end : ℕ) → begins ≡ begins_from 0 counts → end ≡ sum counts → get_or begins 0 end ≡ 0
first-place counts begins end b e = rw (b, e) (begins_from-first counts)

pub places-rise : (counts begins : List ℕ) → All (λ n. 1 ≤ n) counts → begins ≡ begins_from 0 counts → IsStrictlyIncreasing begins
places-rise counts begins some b = rw b (begins_from-rise 0 counts some)

pub places-below : (counts begins : List ℕ) (end : ℕ) → All (λ n. 1 ≤ n) counts → begins ≡ begins_from 0 counts → end ≡ sum counts
    → All (λ b. b < end) begins
places-below counts begins end some b e =
    let below = begins_from-below 0 counts some in
    rw b (λ k d low. (let here = below k d low in omega (arith, here, e)))

-- a list that is written from end to end is what was written
pub whole-write : (n : ℕ) (new old : List ℕ) → length new ≡ n → take n (new ++ drop (length new) old) ≡ new
whole-write n new old h = rw (← h) (take-append_seam new (drop (length new) old))

pub length-concat : (walks : List (List ℕ)) → length (concat walks) ≡ sum (map length walks)
length-concat [] = refl
length-concat (w ∷ ws) =
    omega (arith, length-append w (concat ws), length-concat ws, sum_by-cons (λ x. x) (length w) (map length ws))

-- all prints of walks at their places, cut where the walks begin, are the walks
pub finished : (walks : List (List ℕ)) (prints : List Print) (counts begins entries new : List ℕ)
    → AreAllPrints walks prints → map length walks ≡ counts → begins ≡ begins_from 0 counts
    → length entries ≡ sum counts → new ≡ put_all begins entries prints → walks_at new begins ≡ walks
finished walks prints counts begins entries new all shape b long is =
    let same : begins ≡ begins_from 0 (map length walks) = b ∙ ap (begins_from 0) (sym shape) in
    let total : length entries ≡ length (concat walks) = long ∙ ap sum (sym shape) ∙ sym (length-concat walks) in
    rw (is, same, gathered walks prints entries all total) (walks_at-concat walks)
