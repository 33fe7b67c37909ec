-- Pieces that are made of lists, and how becoming is put together from parts.
use Rattle.std.proofs.Common.{◌≡◌, ℕ, ◌+◌, Bool, true, false, List, [], ◌∷◌, ◌++◌, map, refl, ap, ◌∙◌, arith}
use Rattle.std.specs.Prelude.{sum_by, if◌then◌else◌}
use Rattle.std.specs.List.{flat_map}
use Rattle.std.proofs.lemmas.List.Sums.{sum_by-cons, sum_by-append}
use Rattle.traveller.specs.PartedRuns.{PartedRun}
use Rattle.world_law.specs.Worlds.{Piece, Same}
use Rattle.world_law.specs.Events.{Becomes}
use Rattle.world_law.proofs.BecomeLemmas.{becomes-then, becomes-beside, becomes-within}

-- what is made of each element of a list weighs what all of it does
pub sum_by-map : {X Y : Type 0} (h : Y → ℕ) (f : X → Y) (xs : List X) → sum_by h (map f xs) ≡ sum_by (λ x. h (f x)) xs
sum_by-map h f [] = refl
sum_by-map h f (x ∷ xs) =
    omega (arith, sum_by-map h f xs, sum_by-cons h (f x) (map f xs), sum_by-cons (λ y. h (f y)) x xs)

pub sum_by-flat_map : {X Y : Type 0} (h : Y → ℕ) (f : X → List Y) (xs : List X)
    → sum_by h (flat_map f xs) ≡ sum_by (λ x. sum_by h (f x)) xs
sum_by-flat_map h f [] = refl
sum_by-flat_map h f (x ∷ xs) =
    omega (arith, sum_by-flat_map h f xs, sum_by-append h (f x) (flat_map f xs), sum_by-cons (λ y. sum_by h (f y)) x xs)

-- weights that agree at each element do on a list
pub sum_by-agree : {X : Type 0} (f g : X → ℕ) → ((x : X) → f x ≡ g x) → (xs : List X) → sum_by f xs ≡ sum_by g xs
sum_by-agree f g same [] = refl
sum_by-agree f g same (x ∷ xs) =
    omega (arith, same x, sum_by-agree f g same xs, sum_by-cons f x xs, sum_by-cons g x xs)

-- two things become what they do beside one another
pub becomes-both : (g : PartedRun) (k : ℕ) (a b c d : List Piece) → Becomes g k a b → Becomes g k c d → Becomes g k (a ++ c) (b ++ d)
becomes-both g k a b c d first second =
    becomes-then g k (a ++ c) (b ++ c) (b ++ d) (becomes-beside g k a b c first)
    (becomes-within g k (b ++ c) c d b (b ++ d) second
    (λ h. omega (arith, sum_by-append h b c, sum_by-append h c b))
    (λ h. omega (arith, sum_by-append h d b, sum_by-append h b d)))

-- the same pieces in other orders, before and after
pub becomes-as : (g : PartedRun) (k : ℕ) (a b c d : List Piece) → Becomes g k b c → Same a b → Same c d → Becomes g k a d
becomes-as g k a b c d becomes first last =
    becomes-within g k a b c [] d becomes
    (λ h. omega (arith, first h, sum_by-append h b []))
    (λ h. omega (arith, last h, sum_by-append h c []))
