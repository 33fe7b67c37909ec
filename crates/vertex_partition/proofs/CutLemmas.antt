-- Cuts step by step, and how much the parts between them cost.
use Rattle.std.proofs.Common.{◌≡◌, ℕ, zero, suc, ◌+◌, ◌-◌, ◌*◌, ◌/◌, ◌<◌, ◌≤◌, Bool, true, false, List, [], ◌∷◌, ◌++◌, length, map, sum, take, get_or, refl, arith, ap, sym, ◌∙◌, inl, inr}
use Rattle.std.specs.Prelude.{◌==◌, All}
use Rattle.std.specs.List.Sorted.{IsNonDecreasing}
use Rattle.std.proofs.Math.Nat.{mul-le-mul_right}
use Rattle.std.proofs.lemmas.Nat.{le-div}
use Rattle.std.proofs.lemmas.Bool.{cases_lt}
use Rattle.std.proofs.lemmas.Bool.Decides.{nat_tests}
use Rattle.std.proofs.lemmas.List.{length-map, length-append, map-append, take-map, take_all, get_or-map, get_or_append_left, get_or_at, get_or_default, get_or_past, take_more}
use Rattle.std.proofs.lemmas.List.Sums.{sum_by-cons, sum_by-append}
use Rattle.walk_model.specs.Lists.{front_reaching}
use Rattle.walk_model.specs.Cuts.{up_to, cut, cuts_of, owner}
use Rattle.alias_table.proofs.FrontLemmas.{front_reaching-at_most, front_reaching-above, front_reaching-within, front_reaching-le, front_reaching-reaches, front_reaching-over}
use Rattle.vertex_partition.specs.Balance.{cost_from, AreLike}
use Rattle.vertex_partition.specs.CutViews.{AreCuts, begin_of, end_of}
use Rattle.vertex_partition.specs.declared.cuts.Front.{Front}
use Rattle.vertex_partition.specs.Fronts.{IsFront, scaled}
use Rattle.vertex_partition.proofs.OwnerLaws.{owned-from, owned-to, owned-between}

-- the sum of costs, each so many times
pub sum-scaled : (parts : ℕ) (costs : List ℕ) → sum (scaled parts costs) ≡ sum costs * parts
sum-scaled parts [] = let none : 0 ≡ 0 * parts = omega arith in none
sum-scaled parts (c ∷ cs) =
    let more : sum (c * parts ∷ scaled parts cs) ≡ c * parts + sum (scaled parts cs) = sum_by-cons (λ v. v) (c * parts) (scaled parts cs) in
    let all : sum (c ∷ cs) ≡ c + sum cs = sum_by-cons (λ v. v) c cs in
    rw (more, all, sum-scaled parts cs) (omega arith)

pub front-scaled : (parts : ℕ) (costs : List ℕ) (i : ℕ) → sum (take i (scaled parts costs)) ≡ sum (take i costs) * parts
front-scaled parts costs i =
    ap sum (take-map (λ c. c * parts) i costs) ∙ sum-scaled parts (take i costs)

-- a front that reaches a sum, where no lesser one does, is the first that does
pub front-is : (costs : List ℕ) (parts least : ℕ) (f : Front) → IsFront costs parts least f
    → (f.count < length costs → least ≤ f.cost * parts) → f.count ≡ front_reaching least (scaled parts costs)
front-is costs parts least f is ends =
    let xs : List ℕ = scaled parts costs in
    let long : length xs ≡ length costs = length-map costs (λ c. c * parts) in
    let within = is.within in
    let least_count : f.count ≤ front_reaching least xs = above f.count within is.short in
    let most : front_reaching least xs ≤ f.count = elim (cases_lt f.count (length costs)) [
      | inl low ↦
          front_reaching-at_most least xs f.count
          (let e = front-scaled parts costs f.count in let s = is.cost_is in let m : least ≤ sum (take f.count costs) * parts = rw s at (ends low) in rw e m)
          (omega (arith, long, within))
      | inr past ↦ (let e = front_reaching-within least xs in omega (arith, e, long, past))
    ] in
    omega (arith, least_count, most)
  where
    above : (n : ℕ) → n ≤ length costs → ((i : ℕ) → i < n → sum (take i costs) * parts < least) → n ≤ front_reaching least (scaled parts costs)
    above zero low short = omega arith
    above (suc n) low short =
        let long : length (scaled parts costs) ≡ length costs = length-map costs (λ c. c * parts) in
        let less : sum (take n (scaled parts costs)) < least = rw (front-scaled parts costs n) (short n (omega arith)) in
        let e = front_reaching-above least (scaled parts costs) n less (omega (arith, long, low)) in
        omega (arith, e)

-- one vertex more of a front
pub front-more : (costs : List ℕ) (parts least : ℕ) (f : Front) (next : ℕ) → IsFront costs parts least f → f.count < length costs
    → f.cost * parts < least → next ≡ get_or costs f.count 0
    → IsFront costs parts least (record { count = f.count + 1; cost = f.cost + next })
front-more costs parts least f next is low less at =
    let cost_is = is.cost_is in
    let one : sum (get_or costs f.count 0 ∷ []) ≡ get_or costs f.count 0 = sum_by-cons (λ v. v) (get_or costs f.count 0) [] ∙ omega arith in
    let more : sum (take (f.count + 1) costs) ≡ sum (take f.count costs) + get_or costs f.count 0 =
    ap sum (take_more costs f.count 0 low) ∙ sum_by-append (λ v. v) (take f.count costs) (get_or costs f.count 0 ∷ []) ∙ ap (λ n. sum (take f.count costs) + n) one in
    record {
      within = omega (arith, low);
      cost_is = omega (arith, cost_is, at, more);
      short = λ i h. elim (cases_lt i f.count) [
        | inl before ↦ is.short i before
        | inr past ↦
            let here : i ≡ f.count = omega (arith, h, past) in
            rw (here, ← is.cost_is) less
      ];
    }

-- a front for a greater sum
pub front-on : (costs : List ℕ) (parts least more : ℕ) (f : Front) → least ≤ more → IsFront costs parts least f → IsFront costs parts more f
front-on costs parts least more f le is = record {
  within = is.within;
  cost_is = is.cost_is;
  short = λ i h. (let e = is.short i h in omega (arith, e, le));
}

pub front-first : (costs : List ℕ) (parts least : ℕ) → IsFront costs parts least (record { count = 0; cost = 0 })
front-first costs parts least = record {
  within = omega arith;
  cost_is = refl;
  short = λ i h. absurd (omega (arith, h));
}

-- a part of a sum is no greater than the sum
pub front-most : (costs : List ℕ) (i : ℕ) → sum (take i costs) ≤ sum costs
front-most costs zero = omega arith
front-most [] (suc i) = omega arith
front-most (c ∷ cs) (suc i) =
    let more : sum (c ∷ take i cs) ≡ c + sum (take i cs) = sum_by-cons (λ v. v) c (take i cs) in
    let all : sum (c ∷ cs) ≡ c + sum cs = sum_by-cons (λ v. v) c cs in
    let rest = front-most cs i in
    omega (arith, more, all, rest)

-- the numbers from 1 on
pub length-up_to : (n : ℕ) → length (up_to n) ≡ n
unfolding up_to
length-up_to zero = refl
length-up_to (suc n) = let e = length-append (up_to n) (suc n ∷ []) in let long = length-up_to n in omega (arith, e, long)

pub up_to-at : (n i d : ℕ) → i < n → get_or (up_to n) i d ≡ i + 1
unfolding up_to
up_to-at zero i d low = absurd (omega (arith, low))
up_to-at (suc n) i d low =
    let long = length-up_to n in
    elim (cases_lt i n) [
      | inl before ↦ get_or_append_left (up_to n) (suc n ∷ []) d i (omega (arith, before, long)) ∙ up_to-at n i d before
      | inr past ↦
          let here : i ≡ n = omega (arith, low, past) in
          rw here (get_or_at (up_to n) (suc n) [] d n long ∙ omega arith)
    ]

-- one cut more
cuts-next : (costs : List ℕ) (parts n : ℕ) → map (cut costs parts) (up_to (suc n)) ≡ map (cut costs parts) (up_to n) ++ cut costs parts (suc n) ∷ []
unfolding up_to
cuts-next costs parts n = map-append (cut costs parts) (up_to n) (suc n ∷ [])

pub cuts-more : (costs : List ℕ) (parts k : ℕ) → 1 ≤ k
    → map (cut costs parts) (up_to k) ≡ map (cut costs parts) (up_to (k - 1)) ++ cut costs parts k ∷ []
cuts-more costs parts k some =
    let is : k ≡ suc (k - 1) = omega (arith, some) in
    ap (λ n. map (cut costs parts) (up_to n)) is ∙ cuts-next costs parts (k - 1)
    ∙ ap (λ n. map (cut costs parts) (up_to (k - 1)) ++ cut costs parts n ∷ []) (sym is)

-- without a cut, and with all of them
pub cuts-none : (costs : List ℕ) (parts : ℕ) → map (cut costs parts) (up_to 0) ≡ []
unfolding up_to
cuts-none costs parts = refl

pub cuts-all : (costs : List ℕ) (parts k : ℕ) → k ≡ parts → map (cut costs parts) (up_to (k - 1)) ≡ cuts_of costs parts
unfolding cuts_of
cuts-all costs parts k is = ap (λ n. map (cut costs parts) (up_to (n - 1))) is

pub cut-is : (costs : List ℕ) (parts k : ℕ) → front_reaching (k * sum costs) (scaled parts costs) ≡ cut costs parts k
unfolding cut
cut-is costs parts k = refl

-- cuts rise
pub cut-rises : (costs : List ℕ) (parts i j : ℕ) → i ≤ j → cut costs parts i ≤ cut costs parts j
unfolding cut
cut-rises costs parts i j le =
    front_reaching-le (i * sum costs) (j * sum costs) (scaled parts costs) (mul-le-mul_right (sum costs) le)

pub cut-within : (costs : List ℕ) (parts k : ℕ) → cut costs parts k ≤ length costs
unfolding cut
cut-within costs parts k =
    let e = front_reaching-within (k * sum costs) (scaled parts costs) in
    let long = length-map costs (λ c. c * parts) in
    omega (arith, e, long)

-- a cut by its place
pub cut-at : (costs : List ℕ) (parts i d : ℕ) → i < parts - 1 → get_or (cuts_of costs parts) i d ≡ cut costs parts (i + 1)
unfolding cuts_of
cut-at costs parts i d low =
    let long = length-up_to (parts - 1) in
    get_or-map (cut costs parts) (up_to (parts - 1)) i 0 d (omega (arith, low, long)) ∙ ap (cut costs parts) (up_to-at (parts - 1) i 0 low)

pub length-cuts_of : (costs : List ℕ) (parts : ℕ) → length (cuts_of costs parts) ≡ parts - 1
unfolding cuts_of
length-cuts_of costs parts = length-map (up_to (parts - 1)) (cut costs parts) ∙ length-up_to (parts - 1)

-- they are kept
pub cuts-kept : (costs : List ℕ) (parts : ℕ) → 1 ≤ parts → parts ≤ 256 → AreCuts (length costs) (cuts_of costs parts)
cuts-kept costs parts some most =
    let long = length-cuts_of costs parts in
    record {
      few = omega (arith, long, some, most);
      rising = λ i j d le within.
          (let first : i < parts - 1 = omega (arith, long, le, within) in
          let last : j < parts - 1 = omega (arith, long, within) in
          rw (cut-at costs parts i d first, cut-at costs parts j d last) (cut-rises costs parts (i + 1) (j + 1) (omega (arith, le))));
      within = λ k d low.
          (let there : k < parts - 1 = omega (arith, long, low) in
          rw (cut-at costs parts k d there) (cut-within costs parts (k + 1)));
    }

-- what vertices from one on cost a part: those that lie between its cuts
cost-between : (vertices : ℕ) (cuts : List ℕ) (part v : ℕ) (costs : List ℕ) → IsNonDecreasing cuts → part ≤ length cuts
    → v + length costs ≤ vertices → begin_of cuts part ≤ end_of vertices cuts part
    → cost_from cuts part v costs + sum (take (begin_of cuts part - v) costs) ≡ sum (take (end_of vertices cuts part - v) costs)
unfolding cost_from
cost-between vertices cuts part v [] up low within order = none (begin_of cuts part - v) (end_of vertices cuts part - v)
  where
    empty : (n : ℕ) → sum (take n []) ≡ 0
    empty zero = refl
    empty (suc n) = refl

    none : (m n : ℕ) → 0 + sum (take m []) ≡ sum (take n [])
    none m n = rw (empty m, empty n) refl
cost-between vertices cuts part v (c ∷ cs) up low within order =
    let rest = cost-between vertices cuts part (v + 1) cs up low (omega (arith, within)) order in
    elim (cases_lt v (begin_of cuts part)) [
      | inl before ↦
          let other : (owner cuts v == part) ≡ false =
          not-owned (owner cuts v == part) refl (λ is. (let e = owned-from cuts v part up is in omega (arith, e, before))) in
          let begin : begin_of cuts part - v ≡ suc (begin_of cuts part - (v + 1)) = omega (arith, before) in
          let end : end_of vertices cuts part - v ≡ suc (end_of vertices cuts part - (v + 1)) = omega (arith, before, order) in
          let low_sum : sum (c ∷ take (begin_of cuts part - (v + 1)) cs) ≡ c + sum (take (begin_of cuts part - (v + 1)) cs) = sum_by-cons (λ w. w) c (take (begin_of cuts part - (v + 1)) cs) in
          let high_sum : sum (c ∷ take (end_of vertices cuts part - (v + 1)) cs) ≡ c + sum (take (end_of vertices cuts part - (v + 1)) cs) = sum_by-cons (λ w. w) c (take (end_of vertices cuts part - (v + 1)) cs) in
          rw (other, begin, end, low_sum, high_sum) (omega (arith, rest))
      | inr from ↦ elim (cases_lt v (end_of vertices cuts part)) [
        | inl inside ↦
            let same : owner cuts v ≡ part = owned-between vertices cuts v part up low from inside in
            let yes : (owner cuts v == part) ≡ true = grind (arith, nat_tests) in
            let begin : begin_of cuts part - v ≡ 0 = omega (arith, from) in
            let later : begin_of cuts part - (v + 1) ≡ 0 = omega (arith, from) in
            let end : end_of vertices cuts part - v ≡ suc (end_of vertices cuts part - (v + 1)) = omega (arith, inside) in
            let high_sum : sum (c ∷ take (end_of vertices cuts part - (v + 1)) cs) ≡ c + sum (take (end_of vertices cuts part - (v + 1)) cs) = sum_by-cons (λ w. w) c (take (end_of vertices cuts part - (v + 1)) cs) in
            let rest_is : cost_from cuts part (v + 1) cs + sum (take 0 cs) ≡ sum (take (end_of vertices cuts part - (v + 1)) cs) = rw later at rest in
            rw (yes, begin, end, high_sum) (omega (arith, rest_is))
        | inr past ↦
            let other : (owner cuts v == part) ≡ false =
            not-owned (owner cuts v == part) refl (λ is. (let e = owned-to vertices cuts v part up (omega (arith, within)) is in omega (arith, e, past))) in
            let begin : begin_of cuts part - v ≡ 0 = omega (arith, from) in
            let later : begin_of cuts part - (v + 1) ≡ 0 = omega (arith, from) in
            let end : end_of vertices cuts part - v ≡ 0 = omega (arith, past) in
            let end_later : end_of vertices cuts part - (v + 1) ≡ 0 = omega (arith, past) in
            let rest_is : cost_from cuts part (v + 1) cs + sum (take 0 cs) ≡ sum (take 0 cs) = rw (later, end_later) at rest in
            rw (other, begin, end) (omega (arith, rest_is))
      ]
    ]
  where
    not-owned : (b : Bool) → (owner cuts v == part) ≡ b → (owner cuts v ≡ part → ⊥) → b ≡ false
    not-owned true e other = absurd (other (let is : owner cuts v ≡ part = grind (arith, nat_tests) in is))
    not-owned false e other = refl

-- the vertices before a cut cost no more than the shares before it, and the greatest cost
cut-reached : (costs : List ℕ) (parts k most : ℕ) → All (λ c. c ≤ most) costs
    → sum (take (cut costs parts k) costs) * parts ≤ k * sum costs + most * parts
unfolding cut
cut-reached costs parts k most small =
    rw front-scaled at
    (front_reaching-over (k * sum costs) (most * parts) (scaled parts costs)
    (λ i within. (let there : i < length costs = rw (length-map costs (λ c. c * parts)) at within in
    rw (get_or-map (λ c. c * parts) costs i 0 0 there) (mul-le-mul_right parts (small i 0 there)))))

-- and no less than the shares before it
cut-reaches : (costs : List ℕ) (parts k : ℕ) → k ≤ parts → k * sum costs ≤ sum (take (cut costs parts k) costs) * parts
unfolding cut
cut-reaches costs parts k low =
    let all : sum (scaled parts costs) ≡ sum costs * parts = sum-scaled parts costs in
    let share : k * sum costs ≤ parts * sum costs = mul-le-mul_right (sum costs) low in
    rw front-scaled at (front_reaching-reaches (k * sum costs) (scaled parts costs) (omega (arith, all, share)))

-- the vertices before the end of a part cost no more than the shares up to it, and the greatest cost
cost-above : (costs : List ℕ) (parts part most : ℕ) → part < parts → All (λ c. c ≤ most) costs
    → sum (take (end_of (length costs) (cuts_of costs parts) part) costs) * parts ≤ (part + 1) * sum costs + most * parts
cost-above costs parts part most low small =
    let cuts : List ℕ = cuts_of costs parts in
    let long : length cuts ≡ parts - 1 = length-cuts_of costs parts in
    elim (cases_lt part (parts - 1)) [
      | inl inner ↦
          let end : end_of (length costs) cuts part ≡ cut costs parts (part + 1) = cut-at costs parts part (length costs) inner in
          rw end (cut-reached costs parts (part + 1) most small)
      | inr last ↦
          let end : end_of (length costs) cuts part ≡ length costs = get_or_past cuts part (length costs) (omega (arith, long, last)) in
          let whole : take (length costs) costs ≡ costs = take_all (length costs) costs (omega arith) in
          let same : part + 1 ≡ parts = omega (arith, low, last) in
          rw (end, whole, same) (omega arith)
    ]

-- and those before its beginning no less than the shares before it
cost-below : (costs : List ℕ) (parts part : ℕ) → part < parts
    → part * sum costs ≤ sum (take (begin_of (cuts_of costs parts) part) costs) * parts
cost-below costs parts zero low = omega arith
cost-below costs parts (suc k) low =
    let inner : k < parts - 1 = omega (arith, low) in
    let begin : begin_of (cuts_of costs parts) (suc k) ≡ cut costs parts (k + 1) = cut-at costs parts k 0 inner in
    let next : suc k ≡ k + 1 = omega arith in
    rw begin (rw next (cut-reaches costs parts (k + 1) (omega (arith, low))))

-- a part begins no later than it ends
pub begins-before : (vertices : ℕ) (cuts : List ℕ) (part : ℕ) → AreCuts vertices cuts → part ≤ length cuts
    → begin_of cuts part ≤ end_of vertices cuts part
begins-before vertices cuts zero are low = omega arith
begins-before vertices cuts (suc k) are low =
    elim (cases_lt (suc k) (length cuts)) [
      | inl there ↦
          (let up = are.rising k (suc k) vertices (omega arith) there in
          let here = get_or_default cuts k vertices 0 (omega (arith, low)) in
          omega (arith, up, here))
      | inr past ↦
          (let e = get_or_past cuts (suc k) vertices past in
          let most = are.within k 0 (omega (arith, low)) in
          omega (arith, e, most))
    ]

pub ends-within : (vertices : ℕ) (cuts : List ℕ) (part : ℕ) → AreCuts vertices cuts → end_of vertices cuts part ≤ vertices
ends-within vertices cuts part are =
    elim (cases_lt part (length cuts)) [
      | inl there ↦ are.within part vertices there
      | inr past ↦ (let e = get_or_past cuts part vertices past in omega (arith, e))
    ]

-- where a part begins that isn't the first
pub begin-at : (cuts : List ℕ) (part value : ℕ) → (part ≡ 0 → ⊥) → part ≤ length cuts → value ≡ get_or cuts (part - 1) value
    → value ≡ begin_of cuts part
begin-at cuts zero value some low at = absurd (some refl)
begin-at cuts (suc k) value some low at =
    let back : suc k - 1 ≡ k = omega arith in
    at ∙ ap (λ n. get_or cuts n value) back ∙ get_or_default cuts k value 0 (omega (arith, low))

-- so no part costs more than a share and the greatest cost
pub parts-like : (costs : List ℕ) (parts : ℕ) → 1 ≤ parts → parts ≤ 256 → AreLike costs parts (cuts_of costs parts)
parts-like costs parts some few part most low small =
    let cuts : List ℕ = cuts_of costs parts in
    let are = cuts-kept costs parts some few in
    let long : length cuts ≡ parts - 1 = length-cuts_of costs parts in
    let within : part ≤ length cuts = omega (arith, long, low) in
    let begin : begin_of cuts part - 0 ≡ begin_of cuts part = omega arith in
    let end : end_of (length costs) cuts part - 0 ≡ end_of (length costs) cuts part = omega arith in
    let pays : cost_from cuts part 0 costs + sum (take (begin_of cuts part) costs) ≡ sum (take (end_of (length costs) cuts part) costs) =
    rw (begin, end) at
    (cost-between (length costs) cuts part 0 costs are.rising within (omega arith) (begins-before (length costs) cuts part are within)) in
    let above = cost-above costs parts part most low small in
    let below = cost-below costs parts part low in
    let split : (cost_from cuts part 0 costs + sum (take (begin_of cuts part) costs)) * parts
    ≡ cost_from cuts part 0 costs * parts + sum (take (begin_of cuts part) costs) * parts = omega arith in
    let shares : (part + 1) * sum costs ≡ part * sum costs + sum costs = omega arith in
    let paid : cost_from cuts part 0 costs * parts + sum (take (begin_of cuts part) costs) * parts ≤ (part + 1) * sum costs + most * parts =
    rw split at (rw (← pays) at above) in
    let bound : cost_from cuts part 0 costs * parts ≤ sum costs + most * parts = omega (arith, paid, shares, below) in
    shared (cost_from cuts part 0 costs) bound
  where
    shared : (cost : ℕ) → cost * parts ≤ sum costs + most * parts → cost ≤ (sum costs + parts - 1) / parts + most
    shared cost bound =
        elim (cases_lt most cost) [
          | inl more ↦
              let is : cost ≡ cost - most + most = omega (arith, more) in
              let split : (cost - most + most) * parts ≡ (cost - most) * parts + most * parts = omega arith in
              let whole : (cost - most + most) * parts ≤ sum costs + most * parts = rw is at bound in
              let rest : (cost - most) * parts ≤ sum costs + parts - 1 = omega (arith, whole, split, some) in
              let share = le-div (cost - most) (sum costs + parts - 1) parts (omega (arith, some)) rest in
              omega (arith, share, more)
          | inr less ↦ omega (arith, less)
        ]
