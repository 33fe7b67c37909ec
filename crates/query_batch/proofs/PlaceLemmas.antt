-- The places that are kept of the first asks.
use Rattle.std.proofs.Common.{◌≡◌, ℕ, ◌+◌, ◌<◌, Bool, true, false, List, length, map, get_or, take, Some, None, refl, arith, ap, sym, ◌∙◌, subst}
use Rattle.std.specs.Prelude.{◌==◌, nat_lt, All, Option, MatchOption, unwrap_or, if◌then◌else◌}
use Rattle.std.specs.List.{list_any}
use Rattle.std.proofs.lemmas.Bool.Decides.{nat_tests}
use Rattle.std.proofs.lemmas.List.{get_or-map, length-map, get_or_default, take_more, get_or-take, length-take-le}
use Rattle.std.proofs.lemmas.List.Elements.{All-take}
use Rattle.std.proofs.lemmas.List.Folds.{list_any_more, list_any_at}
use Rattle.walk_model.specs.declared.graph.Edge.{Edge}
use Rattle.walk_model.specs.declared.messages.Ask.{Ask}
use Rattle.walk_model.specs.declared.messages.Reply.{Reply}
use Rattle.query_batch.specs.Questions.{is_asked, distinct_questions}
use Rattle.query_batch.specs.Replies.{found_in, reply_to}
use Rattle.query_batch.specs.Numbers.{number_of, IsWithin}
use Rattle.query_batch.proofs.NumberLemmas.{number-question, is_asked-number, equal_numbers}
use Rattle.query_batch.proofs.DistinctLemmas.{distinct_questions-push}

-- a question's number stands at a place among the first asks
pub record IsPlaceOf (vertices : ℕ) (asks : List Ask) (count n p : ℕ) : Type 0 where
  pub below : p < count
  pub number : (d : Ask) → number_of vertices (get_or asks p d).question ≡ n

-- of each number a place among the first asks is kept, or none has it
abbrev pub Remembers : ℕ → List Ask → ℕ → (ℕ → Option ℕ) → Type 0
Remembers vertices asks count places = (n : ℕ) → MatchOption (places n)
    (list_any (λ a. number_of vertices a.question == n) (take count asks) ≡ false) (IsPlaceOf vertices asks count n)

-- a number that hasn't come among the first asks doesn't come with one of another number
any-more : (v : ℕ) (asks : List Ask) (i n : ℕ) (d : Ask) → i < length asks
    → (number_of v (get_or asks i d).question == n) ≡ false
    → list_any (λ a. number_of v a.question == n) (take i asks) ≡ false
    → list_any (λ a. number_of v a.question == n) (take (i + 1) asks) ≡ false
any-more v asks i n d within other none =
    list_any_more (λ (a : Ask). number_of v a.question == n) asks i d within ∙ rw (none, other) refl

-- what is kept of a number stays true with one more ask, of another number
still_kept : (v : ℕ) (asks : List Ask) (i n : ℕ) (d : Ask) (r : Option ℕ) → i < length asks
    → (number_of v (get_or asks i d).question == n) ≡ false
    → MatchOption r (list_any (λ a. number_of v a.question == n) (take i asks) ≡ false) (IsPlaceOf v asks i n)
    → MatchOption r (list_any (λ a. number_of v a.question == n) (take (i + 1) asks) ≡ false) (IsPlaceOf v asks (i + 1) n)
still_kept v asks i n d None within other kept = any-more v asks i n d within other kept
still_kept v asks i n d (Some p) within other kept =
    let below = kept.below in record { below = omega arith; number = kept.number }

-- the place that is kept of a number, or else the place of one more ask of it, is one of its places
first_is_place : (v : ℕ) (asks : List Ask) (i n first : ℕ) (d : Ask) (r : Option ℕ) → i < length asks
    → number_of v (get_or asks i d).question ≡ n → first ≡ unwrap_or r i
    → MatchOption r (list_any (λ a. number_of v a.question == n) (take i asks) ≡ false) (IsPlaceOf v asks i n)
    → IsPlaceOf v asks (i + 1) n first
first_is_place v asks i n first d None within here e kept = record {
  below = omega arith;
  number = λ z. rw e (ap (λ (a : Ask). number_of v a.question) (get_or_default asks i z d within) ∙ here);
}
first_is_place v asks i n first d (Some p) within here e kept =
    let below = kept.below in
    record { below = omega arith; number = λ z. rw e (kept.number z) }

-- one more ask, whose number is kept at its place where it is new
pub Remembers-more : (v : ℕ) (asks : List Ask) (i n first : ℕ) (d : Ask) (before after : ℕ → Option ℕ) → i < length asks
    → number_of v (get_or asks i d).question ≡ n → first ≡ unwrap_or (before n) i
    → ((m : ℕ) → after m ≡ (if n == m then Some first else before m))
    → Remembers v asks i before → Remembers v asks (i + 1) after
Remembers-more v asks i n first d before after within here e step kept = λ m.
    (let Goal : Option ℕ → Type 0 = λ r. MatchOption r
    (list_any (λ a. number_of v a.question == m) (take (i + 1) asks) ≡ false) (IsPlaceOf v asks (i + 1) m) in
    let cases : (b : Bool) → (n == m) ≡ b → Goal (if b then Some first else before m) = λ b.
    elim b as (λ b. (n == m) ≡ b → Goal (if b then Some first else before m)) [
      | true ↦ λ h.
          let same : n ≡ m = grind (arith, nat_tests) in
          subst (λ k. IsPlaceOf v asks (i + 1) k first) same
          (first_is_place v asks i n first d (before n) within here e (kept n))
      | false ↦ λ h.
          let other : (number_of v (get_or asks i d).question == m) ≡ false = rw here h in
          still_kept v asks i m d (before m) within other (kept m)
    ] in
    subst Goal (sym (step m)) (cases (n == m) refl))

-- nothing is kept of no asks
pub Remembers-none : (v : ℕ) (asks : List Ask) (places : ℕ → Option ℕ) → ((n : ℕ) → places n ≡ None) → Remembers v asks 0 places
Remembers-none v asks places none = λ n. rw (none n) refl

-- a question whose number stands at a place among the first asks is the one of that place's ask
asked_at_place : (v : ℕ) (asks : List Ask) (i n p : ℕ) (d : Ask) → All (λ a. IsWithin v a.question) asks → i < length asks
    → number_of v (get_or asks i d).question ≡ n → IsPlaceOf v asks i n p
    → (get_or asks p d).question ≡ (get_or asks i d).question
asked_at_place v asks i n p d all within here place =
    let below = place.below in
    number-question v (get_or asks p d).question (get_or asks i d).question
    (all p d (omega arith)) (all i d within) (place.number d ∙ sym here)

-- the reply at the place that is kept of a question found what is true of it
pub found-before : (v : ℕ) (edges : List Edge) (asks : List Ask) (replies : List Reply) (i n first : ℕ) (d : Ask) (e : Reply) (r : Option ℕ)
    → All (λ a. IsWithin v a.question) asks → i < length asks → number_of v (get_or asks i d).question ≡ n
    → replies ≡ map (reply_to edges) (take i asks) → first ≡ unwrap_or r i
    → MatchOption r (list_any (λ a. number_of v a.question == n) (take i asks) ≡ false) (IsPlaceOf v asks i n)
    → first < length replies → (get_or replies first e).found ≡ found_in edges (get_or asks i d).question
found-before v edges asks replies i n first d e None all within here are is kept below =
    let len : length replies ≡ i = ap length are ∙ length-map (take i asks) (reply_to edges) ∙ length-take-le i asks (omega arith) in
    absurd (omega arith)
found-before v edges asks replies i n first d e (Some p) all within here are is kept below =
    let low = kept.below in
    let inside : p < length (take i asks) = (let len = length-take-le i asks (omega arith) in omega arith) in
    let same : (get_or asks p d).question ≡ (get_or asks i d).question = asked_at_place v asks i n p d all within here kept in
    let read : get_or (map (reply_to edges) (take i asks)) p e ≡ reply_to edges (get_or (take i asks) p d) =
    get_or-map (reply_to edges) (take i asks) p d e inside in
    rw (is, are, read, get_or-take i asks p d low) (ap (found_in edges) same)

-- a number has come where a place of it is kept
any-kept : (v : ℕ) (asks : List Ask) (i n first count : ℕ) (d : Ask) (r : Option ℕ) → i < length asks → count ≡ i → first ≡ unwrap_or r i
    → MatchOption r (list_any (λ a. number_of v a.question == n) (take i asks) ≡ false) (IsPlaceOf v asks i n)
    → list_any (λ a. number_of v a.question == n) (take i asks) ≡ nat_lt first count
any-kept v asks i n first count d None within e is kept =
    let no : nat_lt first count ≡ false = grind (arith, nat_tests) in
    kept ∙ sym no
any-kept v asks i n first count d (Some p) within e is kept =
    let low = kept.below in
    let yes : nat_lt first count ≡ true = grind (arith, nat_tests) in
    let inside : p < length (take i asks) = (let len = length-take-le i asks (omega arith) in omega arith) in
    let here : number_of v (get_or (take i asks) p d).question ≡ n = rw (get_or-take i asks p d low) (kept.number d) in
    list_any_at (λ (a : Ask). number_of v a.question == n) (take i asks) p d inside (rw here (equal_numbers n n refl)) ∙ sym yes

-- an ask counts where no reply is taken for it
pub distinct_questions-more : (v : ℕ) (asks : List Ask) (i n first count : ℕ) (d : Ask) (r : Option ℕ)
    → All (λ a. IsWithin v a.question) asks → i < length asks → number_of v (get_or asks i d).question ≡ n
    → count ≡ i → first ≡ unwrap_or r i
    → MatchOption r (list_any (λ a. number_of v a.question == n) (take i asks) ≡ false) (IsPlaceOf v asks i n)
    → distinct_questions (take (i + 1) asks) ≡ distinct_questions (take i asks) + (if nat_lt first count then 0 else 1)
distinct_questions-more v asks i n first count d r all within here e is kept =
    let q = (get_or asks i d).question in
    let first_asks : All (λ a. IsWithin v a.question) (take i asks) = All-take (λ (a : Ask). IsWithin v a.question) i asks all in
    let asked : is_asked (take i asks) q ≡ nat_lt first count =
    is_asked-number v (take i asks) q (all i d within) first_asks
    ∙ ap (λ m. list_any (λ a. number_of v a.question == m) (take i asks)) here
    ∙ any-kept v asks i n first count d r within e is kept in
    rw (take_more asks i d within, distinct_questions-push (take i asks) (get_or asks i d))
    (ap (λ b. distinct_questions (take i asks) + (if b then 0 else 1)) asked)
