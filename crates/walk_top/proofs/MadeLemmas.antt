-- The edges of a made graph: how many there are, and what they weigh.
use Rattle.std.proofs.Common.{◌≡◌, ◌≤◌, ◌<◌, ◌+◌, ◌*◌, ℕ, zero, suc, true, false, List, [], ◌∷◌, ◌++◌, length, Some, None, refl, ap, sym, subst, ◌∙◌, arith}
use Rattle.std.specs.Prelude.{All, nat_lt, if◌then◌else◌}
use Rattle.std.specs.Int.{IsGcd}
use Rattle.std.specs.List.{flat_map}
use Rattle.std.proofs.Math.Nat.{one-dvd}
use Rattle.std.proofs.lemmas.Bool.Decides.{nat_tests}
use Rattle.std.proofs.lemmas.Grind.{flat_map-append}
use Rattle.std.proofs.lemmas.List.{append-nil, length-append, length-map}
use Rattle.std.proofs.lemmas.List.Elements.{All-append, All-map}
use Rattle.std.proofs.lemmas.Nat.{mul-le}
use Rattle.walk_model.specs.declared.graph.Edge.{Edge}
use Rattle.walk_model.specs.declared.faults.Limit.TheVariants.{Edges}
use Rattle.walk_model.specs.declared.faults.WalkFault.TheVariants as fault
use Rattle.walk_model.specs.Numbers.{below}
use Rattle.graph_maker.specs.Made.{made_edge, made_graph, made_row}
use Rattle.walk_top.specs.Verdicts.{MayBe, MayRefuse, graph_made, unless}

length-below : (n : ℕ) → length (below n) ≡ n
unfolding below
length-below zero = refl
length-below (suc n) =
    let long = length-append (below n) (n ∷ []) in
    let rest = length-below n in
    omega (arith, long, rest)

-- rows of one length
flat-length : (f : ℕ → List Edge) (n d : ℕ) → ((v : ℕ) → length (f v) ≡ d) → length (flat_map f (below n)) ≡ n * d
unfolding below
flat-length f zero d each = omega arith
flat-length f (suc n) d each =
    let both = ap (λ (l : List Edge). length l) (flat_map-append f (below n) (n ∷ [])) ∙ length-append (flat_map f (below n)) (f n ++ []) in
    let last = ap (λ (l : List Edge). length l) (append-nil (f n)) ∙ each n in
    let rest = flat-length f n d each in
    let product : suc n * d ≡ n * d + d = omega arith in
    omega (arith, both, last, rest, product)

-- a made graph has as many edges from each vertex as its degree
pub made-length : (vertices degree seed : ℕ) → length (made_graph vertices degree seed) ≡ vertices * degree
made-length vertices degree seed =
    flat-length (made_row vertices degree seed) vertices degree
    (λ v. length-map (below degree) (made_edge vertices seed v) ∙ length-below degree)

-- what holds of all edges of all rows
flat-all : (P : Edge → Type 0) (f : ℕ → List Edge) (xs : List ℕ) → ((v : ℕ) → All P (f v)) → All P (flat_map f xs)
flat-all P f [] each = λ k d low. absurd (omega (arith, low))
flat-all P f (x ∷ xs) each = All-append P (f x) (flat_map f xs) (each x) (flat-all P f xs each)

abbrev pub IsLight : Edge → Type 0
IsLight e = (1 ≤ e.weight) × (e.weight ≤ 4294967295)

made-light : (vertices seed v j : ℕ) → IsLight (made_edge vertices seed v j)
made-light vertices seed v j = (omega arith, omega arith)

-- each edge weighs from 1 to 7
pub made-weights : (vertices degree seed : ℕ) → All IsLight (made_graph vertices degree seed)
made-weights vertices degree seed =
    flat-all IsLight (made_row vertices degree seed) (below vertices)
    (λ v. All-map IsLight (made_edge vertices seed v) (below degree) (λ k d low. made-light vertices seed v _))

-- the product of two numbers in their ranges
pub product-most : (vertices degree : ℕ) → vertices ≤ 1000000 → degree ≤ 64 → vertices * degree ≤ 64000000
product-most vertices degree few low = let most = mul-le vertices degree 1000000 64 few low in omega (arith, most)

-- few edges are made
pub made-found : (vertices degree seed : ℕ) (edges : List Edge) → vertices * degree ≤ 16777216 → edges ≡ made_graph vertices degree seed
    → MayBe (graph_made vertices degree seed) edges
made-found vertices degree seed edges few is =
    let within : nat_lt 16777216 (vertices * degree) ≡ false = grind (arith, nat_tests, few) in
    subst (λ b. MayBe (unless (if b then Some (fault.Limit Edges) else None) (made_graph vertices degree seed)) edges) (sym within) (sym is)

-- more are refused
pub made-refused : (vertices degree seed : ℕ) → 16777216 < vertices * degree → MayRefuse (graph_made vertices degree seed) (fault.Limit Edges)
made-refused vertices degree seed many =
    let passed : nat_lt 16777216 (vertices * degree) ≡ true = grind (arith, nat_tests, many) in
    subst (λ b. MayRefuse (unless (if b then Some (fault.Limit Edges) else None) (made_graph vertices degree seed)) (fault.Limit Edges)) (sym passed) refl

-- one half and two are in lowest terms
pub IsGcd-half : IsGcd 1 2 1
IsGcd-half = (one-dvd 1, one-dvd 2, λ d first second. first)

pub IsGcd-double : IsGcd 2 1 1
IsGcd-double = (one-dvd 2, one-dvd 1, λ d first second. second)

pub ruleset ratios = (IsGcd-half, IsGcd-double)
