-- Questions and their numbers.
use Rattle.std.proofs.Common.{◌≡◌, ℕ, suc, ◌+◌, ◌*◌, ◌<◌, ◌≤◌, true, List, [], ◌∷◌, ◌&&◌, refl, arith, ap, sym, ◌∙◌, subst, length, get_or}
use Rattle.std.specs.Prelude.{◌==◌, All}
use Rattle.std.specs.List.{list_any}
use Rattle.std.proofs.Math.Nat.{mul-le-mul_right}
use Rattle.std.proofs.lemmas.Bool.Decides.{nat_tests, same_from_decides}
use Rattle.std.proofs.lemmas.List.Elements.{All-head, All-tail}
use Rattle.walk_model.specs.declared.messages.Ask.{Ask}
use Rattle.walk_model.specs.declared.messages.Question.{Question}
use Rattle.walk_model.specs.declared.messages.Question.TheVariants as question
use Rattle.query_batch.specs.Questions.{same_question, is_asked, CanAnswer}
use Rattle.query_batch.specs.Numbers.{number_of, IsWithin}
use Rattle.vertex_partition.specs.PartViews.{PartView}

-- a part answers questions about its vertices
pub IsWithin-answered : (p : PartView) (q : Question) → CanAnswer p q → IsWithin p.vertices q
IsWithin-answered p (question.Edge t x) can = (can.0.below, can.1)
IsWithin-answered p (question.Row t) can = can.below

-- so all asks that a part answers are about its vertices
pub all-IsWithin : (p : PartView) (n : ℕ) (asks items : List Ask) → n ≡ p.vertices → items ≡ asks
    → All (λ a. CanAnswer p a.question) asks → All (λ a. IsWithin n a.question) items
all-IsWithin p n asks items vertices same can = λ k d h.
    (let inside : k < length asks = rw same at h in
    rw (vertices, same) (IsWithin-answered p (get_or asks k d).question (can k d inside)))

-- of two multiples with less than one more, the greater multiple makes the greater sum
no_less : (w t x u y : ℕ) → x < w → t < u → t * w + x ≡ u * w + y → ⊥
no_less w t x u y hx less e =
    let up : suc t * w ≤ u * w = mul-le-mul_right w (omega arith) in
    let more : suc t * w ≡ t * w + w = omega arith in
    omega arith

-- the number of a pair tells both of it
parts_of : (w t x u y : ℕ) → x < w → y < w → t * w + x ≡ u * w + y → (t ≡ u) × (x ≡ y)
parts_of w t x u y hx hy e =
    let low : t < u → ⊥ = λ h. no_less w t x u y hx h e in
    let high : u < t → ⊥ = λ h. no_less w u y t x hy h (sym e) in
    let first : t ≡ u = omega arith in
    let products : t * w ≡ u * w = ap (λ n. n * w) first in
    (first, omega arith)

-- questions of one number are one
pub number-question : (n : ℕ) (q r : Question) → IsWithin n q → IsWithin n r → number_of n q ≡ number_of n r → q ≡ r
number-question n (question.Edge t x) (question.Edge u y) hq hr e =
    let low = hq.1 in
    let high = hr.1 in
    let same = parts_of (n + 1) t (x + 1) u (y + 1) (omega arith) (omega arith) e in
    let first : t ≡ u = same.0 in
    let second : x ≡ y = (let next = same.1 in omega arith) in
    cc
number-question n (question.Edge t x) (question.Row u) hq hr e =
    let low = hq.1 in
    let same = parts_of (n + 1) t (x + 1) u 0 (omega arith) (omega arith) (e ∙ omega arith) in
    let none : x + 1 ≡ 0 = same.1 in
    absurd (omega arith)
number-question n (question.Row t) (question.Edge u y) hq hr e =
    let low = hr.1 in
    let same = parts_of (n + 1) u (y + 1) t 0 (omega arith) (omega arith) (sym e ∙ omega arith) in
    let none : y + 1 ≡ 0 = same.1 in
    absurd (omega arith)
number-question n (question.Row t) (question.Row u) hq hr e =
    let e' : t * (n + 1) + 0 ≡ u * (n + 1) + 0 = omega (arith, e) in
    let same = parts_of (n + 1) t 0 u 0 (omega arith) (omega arith) e' in
    ap question.Row same.0

-- a question is the same as itself
same_question-self : (q : Question) → same_question q q ≡ true
same_question-self (question.Edge t x) =
    let one : (t == t) ≡ true = grind (arith, nat_tests) in
    let two : (x == x) ≡ true = grind (arith, nat_tests) in
    rw (one, two) refl
same_question-self (question.Row t) = grind (arith, nat_tests)

both_same : (t u x y : ℕ) → ((t == u) && (x == y)) ≡ true → (t ≡ u) × (x ≡ y)
both_same t u x y h = (grind (arith, nat_tests), grind (arith, nat_tests))

one_same : (t u : ℕ) → (t == u) ≡ true → t ≡ u
one_same t u h = grind (arith, nat_tests)

-- questions that are the same are one
pub same_question-tells : (q r : Question) → same_question q r ≡ true → q ≡ r
same_question-tells (question.Edge t x) (question.Edge u y) h =
    let both = both_same t u x y h in
    let first : t ≡ u = both.0 in
    let second : x ≡ y = both.1 in
    cc
same_question-tells (question.Edge t x) (question.Row u) h = absurd (cc)
same_question-tells (question.Row t) (question.Edge u y) h = absurd (cc)
same_question-tells (question.Row t) (question.Row u) h = ap question.Row (one_same t u h)

same_question-told : (q r : Question) → q ≡ r → same_question q r ≡ true
same_question-told q r e = subst (λ z. same_question q z ≡ true) e (same_question-self q)

-- being the same goes both ways
pub same_question-sym : (q r : Question) → same_question q r ≡ same_question r q
same_question-sym q r =
    same_from_decides {P = q ≡ r} (same_question q r) (same_question r q)
    (same_question-tells q r, same_question-told q r)
    (λ h. sym (same_question-tells r q h), λ e. same_question-told r q (sym e))

-- equal numbers pass the test
pub equal_numbers : (m n : ℕ) → m ≡ n → (m == n) ≡ true
equal_numbers m n e = grind (arith, nat_tests)

-- questions are the same where their numbers are
same_question-number : (n : ℕ) (q r : Question) → IsWithin n q → IsWithin n r
    → same_question q r ≡ (number_of n q == number_of n r)
same_question-number n q r hq hr =
    same_from_decides {P = q ≡ r} (same_question q r) (number_of n q == number_of n r)
    (same_question-tells q r, same_question-told q r) (
      λ h. number-question n q r hq hr (one_same (number_of n q) (number_of n r) h),
      λ e. equal_numbers (number_of n q) (number_of n r) (ap (number_of n) e),
    )

-- a question is asked where its number is
pub is_asked-number : (n : ℕ) (asks : List Ask) (q : Question) → IsWithin n q → All (λ a. IsWithin n a.question) asks
    → is_asked asks q ≡ list_any (λ a. number_of n a.question == number_of n q) asks
is_asked-number n [] q hq all = refl
is_asked-number n (a ∷ asks) q hq all =
    let first = same_question-number n a.question q (All-head (λ (a : Ask). IsWithin n a.question) a asks all) hq in
    let rest = is_asked-number n asks q hq (All-tail (λ (a : Ask). IsWithin n a.question) a asks all) in
    rw (first, rest) refl
