-- Requests that are asked for, and the answers to them.
use Rattle.std.proofs.Common.{◌≡◌, ◌<◌, ◌≤◌, ◌+◌, ℕ, zero, suc, List, [], ◌∷◌, ◌++◌, length, map, drop, get_or, Some, None, Option, Vec, refl, ap, sym, subst, ◌∙◌, append_assoc, arith, length-append}
use Rattle.std.specs.List.{AllZip}
use Rattle.std.specs.declared.alloc.Global.{Global}
use Rattle.std.proofs.lemmas.List.{map-append, append-nil, drop_more}
use Rattle.request_reader.specs.declared.requests.Request.{Request}
use Rattle.walk_desk.specs.declared.asks.WalkAsk.{WalkAsk}
use Rattle.walk_desk.specs.declared.asks.WalkAnswer.{WalkAnswer}
use Rattle.walk_desk.specs.Answers.{answers_from}
use Rattle.walk_desk.specs.Seats.{Seat, new_seats}
use Rattle.request_replies.specs.Answered.{good_ones, request_in, walks_in, HasAsked, AreAnswers, AreAllAnswered, AreAllCounted}
use Rattle.request_replies.proofs.ReplyLaws.{answers-count}

-- nothing has been asked for
pub asked-none : (requests : List (Option Request)) (asks : List WalkAsk) → asks ≡ [] → HasAsked requests 0 asks
asked-none requests asks none = record {
  so_far = ap (λ l. map request_in l ++ good_ones requests) none;
  few = (let count : length asks ≡ 0 = ap length none in omega arith);
  within = omega arith;
}

-- a bad request isn't asked for
pub asked-bad : (requests : List (Option Request)) (k : ℕ) (asks : List WalkAsk) → k < length requests → get_or requests k None ≡ None
    → HasAsked requests k asks → HasAsked requests (k + 1) asks
asked-bad requests k asks low bad asked = record {
  so_far = ap (λ l. map request_in asks ++ l) (sym (ap good_ones (drop_more requests k None low) ∙ ap (λ r. good_ones (r ∷ drop (k + 1) requests)) bad)) ∙ asked.so_far;
  few = (let f = asked.few in omega arith);
  within = omega arith;
}

-- a good one is
pub asked-good : (requests : List (Option Request)) (k : ℕ) (asks next : List WalkAsk) (q : Request) (a : WalkAsk) → k < length requests
    → get_or requests k None ≡ Some q → request_in a ≡ q → next ≡ asks ++ a ∷ [] → HasAsked requests k asks → HasAsked requests (k + 1) next
asked-good requests k asks next q a low good is more asked = record {
  so_far = ap (λ l. map request_in l ++ good_ones (drop (k + 1) requests)) more
      ∙ ap (λ l. l ++ good_ones (drop (k + 1) requests)) (map-append request_in asks (a ∷ []))
      ∙ append_assoc (map request_in asks) (request_in a ∷ []) (good_ones (drop (k + 1) requests))
      ∙ ap (λ r. map request_in asks ++ (r ∷ good_ones (drop (k + 1) requests))) is
      ∙ ap (λ l. map request_in asks ++ l) (sym (ap good_ones (drop_more requests k None low) ∙ ap (λ r. good_ones (r ∷ drop (k + 1) requests)) good))
      ∙ asked.so_far;
  few =
      (let f = asked.few in
      let count : length next ≡ length asks + 1 = ap length more ∙ length-append asks (a ∷ []) in
      omega arith);
  within = omega arith;
}

drop-all : {A : Type 0} (xs : List A) (k : ℕ) → length xs ≤ k → drop k xs ≡ []
drop-all [] zero over = refl
drop-all [] (suc k) over = refl
drop-all (x ∷ xs) zero over = absurd (omega arith)
drop-all (x ∷ xs) (suc k) over = drop-all xs k (omega arith)

-- all have been asked for
pub asked-all : (requests : List (Option Request)) (k : ℕ) (asks : List WalkAsk) → length requests ≤ k → HasAsked requests k asks
    → map request_in asks ≡ good_ones requests
asked-all requests k asks over asked =
    sym (ap (λ l. map request_in asks ++ good_ones l) (drop-all requests k over) ∙ append-nil (map request_in asks)) ∙ asked.so_far

-- the walks in the answers to asks
answers-walks : (walks : Request → Option (List ℕ)) (n : ℕ) (asks : List WalkAsk)
    → walks_in (answers_from (λ a. walks (request_in a)) n asks) ≡ map walks (map request_in asks)
answers-walks walks n [] = refl
answers-walks walks n (a ∷ more) = ap (λ l. walks (request_in a) ∷ l) (answers-walks walks (suc n) more)

-- what a client took, and then what the closing gave, are the answers to the good requests
pub answers-all : (walks : Request → Option (List ℕ)) (requests : List (Option Request)) (asks : List WalkAsk) (taken had left : List WalkAnswer)
    → map request_in asks ≡ good_ones requests → had ≡ taken → had ++ left ≡ answers_from (λ a. walks (request_in a)) 0 asks
    → AreAnswers walks requests taken left
answers-all walks requests asks taken had left asked same all =
    ap (λ l. walks_in (l ++ left)) (sym same) ∙ ap walks_in all ∙ answers-walks walks 0 asks ∙ ap (map walks) asked

-- clients that have asked nothing yet
pub seats-fresh : (capacity place n j : ℕ) (s : Seat) → j < n
    → ((get_or (new_seats capacity place n) j s).asks ≡ []) × ((get_or (new_seats capacity place n) j s).answers ≡ [])
seats-fresh capacity place zero j s low = absurd (omega arith)
seats-fresh capacity place (suc n) zero s low = (refl, refl)
seats-fresh capacity place (suc n) (suc j) s low = seats-fresh capacity (suc place) n j s (omega arith)

-- pairs by their places
pub zip-length : {A B : Type 0} (R : A → B → Type 0) (xs : List A) (ys : List B) → AllZip R xs ys → length ys ≡ length xs
zip-length R [] [] all = refl
zip-length R [] (y ∷ ys) all = absurd all
zip-length R (x ∷ xs) [] all = absurd all
zip-length R (x ∷ xs) (y ∷ ys) all = ap suc (zip-length R xs ys all.1)

pub zip-at : {A B : Type 0} (R : A → B → Type 0) (xs : List A) (ys : List B) (k : ℕ) (x : A) (y : B) → AllZip R xs ys → k < length xs
    → R (get_or xs k x) (get_or ys k y)
zip-at R [] ys k x y all low = absurd (omega arith)
zip-at R (a ∷ xs) [] k x y all low = absurd all
zip-at R (a ∷ xs) (b ∷ ys) zero x y all low = all.0
zip-at R (a ∷ xs) (b ∷ ys) (suc k) x y all low = zip-at R xs ys k x y all.1 (omega arith)

-- one element more at the end
pub push-at : {A : Type 0} (xs new : List A) (x d : A) (k : ℕ) → new ≡ xs ++ x ∷ [] → length xs ≡ k → get_or new k d ≡ x
push-at [] new x d zero is long = ap (λ l. get_or l 0 d) is
push-at [] new x d (suc k) is long = absurd (omega (arith, long))
push-at (y ∷ xs) new x d zero is long = absurd (omega (arith, long))
push-at (y ∷ xs) new x d (suc k) is long = ap (λ l. get_or l (suc k) d) is ∙ push-at xs (xs ++ x ∷ []) x d k refl (omega (arith, long))

pub push-below : {A : Type 0} (xs new : List A) (x d : A) (k : ℕ) → new ≡ xs ++ x ∷ [] → k < length xs → get_or new k d ≡ get_or xs k d
push-below [] new x d k is low = absurd (omega arith)
push-below (y ∷ xs) new x d zero is low = ap (λ l. get_or l 0 d) is
push-below (y ∷ xs) new x d (suc k) is low = ap (λ l. get_or l (suc k) d) is ∙ push-below xs (xs ++ x ∷ []) x d k refl (omega arith)

-- all that is answered is counted
pub answered-counted : (walks : Request → Option (List ℕ)) (files : List (Vec (Option Request) Global)) (taken left : List (Vec WalkAnswer Global))
    → AreAllAnswered walks files taken left → AreAllCounted files taken left
answered-counted walks files taken left all = record {
  taken_count = all.taken_count;
  left_count = all.left_count;
  each = λ k f t l low. answers-count walks (get_or files k f).items (get_or taken k t).items (get_or left k l).items (all.each k f t l low);
}
