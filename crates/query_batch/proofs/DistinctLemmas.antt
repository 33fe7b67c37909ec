-- The number of distinct questions.
use Rattle.std.proofs.Common.{◌≡◌, ℕ, ◌+◌, Bool, true, false, List, [], ◌∷◌, ◌++◌, ◌||◌, refl, arith, ap, sym}
use Rattle.std.specs.Prelude.{if◌then◌else◌}
use Rattle.std.proofs.lemmas.List.Folds.{list_any-append}
use Rattle.walk_model.specs.declared.messages.Ask.{Ask}
use Rattle.query_batch.specs.Questions.{same_question, is_asked, distinct_questions}
use Rattle.query_batch.proofs.NumberLemmas.{same_question-tells, same_question-sym}

-- of one more question and a first one, which may be the same, each counts where it is new
count_both : (same first last : Bool) (n : ℕ) → (same ≡ true → first ≡ last)
    → (if first || (same || false) then 0 else 1) + (n + (if last then 0 else 1))
    ≡ ((if first then 0 else 1) + n) + (if same || last then 0 else 1)
count_both true true last n h = rw (sym (h refl)) (omega arith)
count_both true false last n h = rw (sym (h refl)) (omega arith)
count_both false true last n h = omega arith
count_both false false last n h = omega arith

-- no asks have no questions
pub distinct_questions-none : distinct_questions [] ≡ 0
unfolding distinct_questions
distinct_questions-none = refl

-- one more ask counts where its question is new
pub distinct_questions-push : (asks : List Ask) (b : Ask)
    → distinct_questions (asks ++ b ∷ []) ≡ distinct_questions asks + (if is_asked asks b.question then 0 else 1)
unfolding distinct_questions
distinct_questions-push [] b = omega arith
distinct_questions-push (a ∷ asks) b =
    let last = list_any-append (λ (c : Ask). same_question c.question a.question) asks (b ∷ []) in
    let same = same_question-sym b.question a.question in
    rw (last, same, distinct_questions-push asks b)
    (count_both (same_question a.question b.question) (is_asked asks a.question) (is_asked asks b.question) (distinct_questions asks)
    (λ h. ap (is_asked asks) (same_question-tells a.question b.question h)))
