-- Replies, one after another.
use Rattle.std.proofs.Common.{◌≡◌, ◌<◌, ◌≤◌, ◌+◌, ℕ, zero, suc, List, [], ◌∷◌, ◌++◌, length, map, take, drop, get_or, Some, None, Option, Vec, refl, ap, sym, subst, ◌∙◌, append_assoc, arith, length-append}
use Rattle.std.specs.Prelude.{decimal, slice_get, option_map, unwrap_or}
use Rattle.std.specs.List.{concat}
use Rattle.std.specs.declared.alloc.Global.{Global}
use Rattle.std.proofs.lemmas.List.{append-nil, take_more, take_all}
use Rattle.std.proofs.lemmas.Option.{slice_get-map}
use Rattle.path_writer.specs.Named.{spaced}
use Rattle.walk_model.specs.Text.{line}
use Rattle.request_reader.specs.declared.requests.Request.{Request}
use Rattle.walk_desk.specs.declared.asks.WalkAnswer.{WalkAnswer}
use Rattle.request_replies.specs.Answered.{good_ones, lists_of, walks_in, AreAnswers}
use Rattle.request_replies.specs.Lines.{entries}
use Rattle.request_replies.specs.Replies.{reply, replies, all_replies}

-- a text byte by byte
abbrev pub single : ℕ → List ℕ
single b = b ∷ []

pub bytes-one : (xs : List ℕ) → concat (map single xs) ≡ xs
bytes-one [] = refl
bytes-one (x ∷ xs) = ap (λ l. x ∷ l) (bytes-one xs)

-- the first id of a walk, and each later one after a space
pub entries-first : (x : ℕ) (xs : List ℕ) → entries (x ∷ xs) ≡ decimal x ++ concat (map spaced xs)
entries-first x [] = sym (append-nil (decimal x))
entries-first x (y ∷ ys) = ap (λ l. decimal x ++ (32 ∷ l)) (entries-first y ys)

pub line-entries : (ids : List ℕ) → line ids ≡ entries ids ++ 10 ∷ []
unfolding line
line-entries ids = refl

-- replies are the reply to each request
pub replies-is : (walks : Request → Option (List ℕ)) (requests : List (Option Request)) → replies walks requests ≡ concat (map (reply walks) requests)
unfolding replies
replies-is walks requests = refl

-- the good ones among requests, cut at one of them
pub goods-cut : (requests : List (Option Request)) (k : ℕ) (q : Request) → k < length requests → get_or requests k None ≡ Some q
    → good_ones requests ≡ good_ones (take k requests) ++ q ∷ good_ones (drop (suc k) requests)
goods-cut [] k q low at = absurd (omega arith)
goods-cut (r ∷ rs) zero q low at = ap (λ x. good_ones (x ∷ rs)) at
goods-cut (None ∷ rs) (suc k) q low at = goods-cut rs k q (omega arith) at
goods-cut (Some p ∷ rs) (suc k) q low at = ap (λ l. p ∷ l) (goods-cut rs k q (omega arith) at)

goods-append : (xs ys : List (Option Request)) → good_ones (xs ++ ys) ≡ good_ones xs ++ good_ones ys
goods-append [] ys = refl
goods-append (None ∷ xs) ys = goods-append xs ys
goods-append (Some q ∷ xs) ys = ap (λ l. q ∷ l) (goods-append xs ys)

-- how many good ones there are so far
pub count-good : (requests : List (Option Request)) (k n : ℕ) (q : Request) → k < length requests → get_or requests k None ≡ Some q
    → n ≡ length (good_ones (take k requests)) → n + 1 ≡ length (good_ones (take (k + 1) requests))
count-good requests k n q low at is =
    let more : good_ones (take (k + 1) requests) ≡ good_ones (take k requests) ++ q ∷ [] =
    ap good_ones (take_more requests k None low) ∙ goods-append (take k requests) (get_or requests k None ∷ [])
    ∙ ap (λ x. good_ones (take k requests) ++ good_ones (x ∷ [])) at in
    let count : length (good_ones (take (k + 1) requests)) ≡ length (good_ones (take k requests)) + 1 =
    ap length more ∙ length-append (good_ones (take k requests)) (q ∷ []) in
    omega (arith, is, count)

pub count-bad : (requests : List (Option Request)) (k n : ℕ) → k < length requests → get_or requests k None ≡ None
    → n ≡ length (good_ones (take k requests)) → n ≡ length (good_ones (take (k + 1) requests))
count-bad requests k n low at is =
    is ∙ sym (ap length (ap good_ones (take_more requests k None low) ∙ goods-append (take k requests) (get_or requests k None ∷ [])
    ∙ ap (λ x. good_ones (take k requests) ++ good_ones (x ∷ [])) at ∙ append-nil (good_ones (take k requests))))

length-map' : {A B : Type 0} (f : A → B) (xs : List A) → length (map f xs) ≡ length xs
length-map' f [] = refl
length-map' f (x ∷ xs) = ap suc (length-map' f xs)

-- there are as many answers as good requests
pub answers-count : (walks : Request → Option (List ℕ)) (requests : List (Option Request)) (taken left : List WalkAnswer)
    → AreAnswers walks requests taken left → length taken + length left ≡ length (good_ones requests)
answers-count walks requests taken left answers =
    sym (length-map' (λ (a : WalkAnswer). a.walk) (taken ++ left) ∙ length-append taken left)
    ∙ ap length answers ∙ length-map' walks (good_ones requests)

-- and so one to each good request
pub answer-there : (requests : List (Option Request)) (m k n : ℕ) (q : Request) → m ≡ length (good_ones requests) → k < length requests
    → get_or requests k None ≡ Some q → n ≡ length (good_ones (take k requests)) → n < m
answer-there requests m k n q all low at is =
    let cut : length (good_ones requests) ≡ length (good_ones (take k requests)) + suc (length (good_ones (drop (suc k) requests))) =
    ap length (goods-cut requests k q low at) ∙ length-append (good_ones (take k requests)) (q ∷ good_ones (drop (suc k) requests)) in
    omega (arith, all, cut, is)

get-behind : {A : Type 0} (xs ys : List A) (y : A) → slice_get (xs ++ y ∷ ys) (length xs) ≡ Some y
get-behind [] ys y = refl
get-behind (x ∷ xs) ys y = get-behind xs ys y

-- and it has the walk of that request
pub answer-walk : (walks : Request → Option (List ℕ)) (requests : List (Option Request)) (taken left : List WalkAnswer) (k n : ℕ) (q : Request) (a : WalkAnswer)
    → AreAnswers walks requests taken left → k < length requests → get_or requests k None ≡ Some q
    → n ≡ length (good_ones (take k requests)) → slice_get (taken ++ left) n ≡ Some a → a.walk ≡ walks q
answer-walk walks requests taken left k n q a answers low at is there =
    let one : slice_get (walks_in (taken ++ left)) n ≡ Some a.walk =
    slice_get-map (λ (b : WalkAnswer). b.walk) (taken ++ left) n ∙ ap (option_map (λ (b : WalkAnswer). b.walk)) there in
    let other : slice_get (walks_in (taken ++ left)) n ≡ Some (walks q) =
    ap (λ l. slice_get l n) answers ∙ slice_get-map walks (good_ones requests) n
    ∙ ap (λ m. option_map walks (slice_get (good_ones requests) m)) is
    ∙ ap (λ l. option_map walks (slice_get l (length (good_ones (take k requests))))) (goods-cut requests k q low at)
    ∙ ap (option_map walks) (get-behind (good_ones (take k requests)) (good_ones (drop (suc k) requests)) q) in
    ap (λ o. unwrap_or o a.walk) (sym one ∙ other)

-- an answer that was taken, or one of those that were left
pub taken-at : {A : Type 0} (xs ys : List A) (n : ℕ) (x : A) → n < length xs → get_or xs n x ≡ x → slice_get (xs ++ ys) n ≡ Some x
taken-at [] ys n x low at = absurd (omega arith)
taken-at (z ∷ xs) ys zero x low at = ap (λ w. Some w) at
taken-at (z ∷ xs) ys (suc n) x low at = taken-at xs ys n x (omega arith) at

there-at : {A : Type 0} (ys : List A) (n : ℕ) (x : A) → n < length ys → get_or ys n x ≡ x → slice_get ys n ≡ Some x
there-at [] n x low at = absurd (omega arith)
there-at (y ∷ ys) zero x low at = ap (λ w. Some w) at
there-at (y ∷ ys) (suc n) x low at = there-at ys n x (omega arith) at

pub left-at : {A : Type 0} (xs ys : List A) (n m : ℕ) (x : A) → n ≡ length xs + m → m < length ys → get_or ys m x ≡ x → slice_get (xs ++ ys) n ≡ Some x
left-at [] ys n m x is low at = let same : n ≡ m = omega (arith, is) in rw same (there-at ys m x low at)
left-at (z ∷ xs) ys zero m x is low at = absurd (omega (arith, is))
left-at (z ∷ xs) ys (suc n) m x is low at = left-at xs ys n m x (omega (arith, is)) low at

-- there are no more good ones than requests
pub good-few : (requests : List (Option Request)) (k : ℕ) → length (good_ones (take k requests)) ≤ k
good-few [] zero = omega arith
good-few [] (suc k) = omega arith
good-few (r ∷ rs) zero = omega arith
good-few (None ∷ rs) (suc k) = let rest = good-few rs k in omega (arith, rest)
good-few (Some q ∷ rs) (suc k) = let rest = good-few rs k in omega (arith, rest)

-- the replies to the requests of a file
abbrev pub file_replies : (Request → Option (List ℕ)) → Vec (Option Request) Global → List ℕ
file_replies walks f = replies walks f.items

pub files-is : (walks : Request → Option (List ℕ)) (files : List (Vec (Option Request) Global)) → all_replies walks (lists_of files) ≡ concat (map (file_replies walks) files)
unfolding all_replies
files-is walks [] = refl
files-is walks (f ∷ fs) = ap (λ l. replies walks f.items ++ l) (files-is walks fs)

-- the same requests and answers
pub answers-moved : (walks : Request → Option (List ℕ)) (a b : List (Option Request)) (t u l m : List WalkAnswer) → a ≡ b → t ≡ u → l ≡ m
    → AreAnswers walks a t l → AreAnswers walks b u m
answers-moved walks a b t u l m one two three answers =
    subst (λ (x : List (Option Request)). AreAnswers walks x u m) one
    (subst (λ (x : List WalkAnswer). AreAnswers walks a x m) two
    (subst (λ (x : List WalkAnswer). AreAnswers walks a t x) three answers))
