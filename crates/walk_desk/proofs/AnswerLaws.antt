-- How answers to asks grow.
use Rattle.std.proofs.Common.{◌≡◌, ℕ, suc, ◌+◌, List, [], ◌∷◌, ◌++◌, Option, Some, None, length, refl, ap, sym, ◌∙◌, arith, length-append, append-nil, append_assoc, option_to_list}
use Rattle.walk_desk.specs.declared.asks.WalkAsk.{WalkAsk}
use Rattle.walk_desk.specs.declared.asks.WalkAnswer.{WalkAnswer}
use Rattle.walk_desk.specs.Answers.{answers_from}
use Rattle.walk_desk.specs.Posts.{IsAnswered}

-- as many answers as asks
pub answers-length : (walk : WalkAsk → Option (List ℕ)) (n : ℕ) (asks : List WalkAsk) → length (answers_from walk n asks) ≡ length asks
answers-length walk n [] = refl
answers-length walk n (a ∷ more) = ap suc (answers-length walk (suc n) more)

-- the answers to asks in two lists, the second numbered on from the first
pub answers-append : (walk : WalkAsk → Option (List ℕ)) (n m : ℕ) (xs ys : List WalkAsk) → m ≡ n + length xs → answers_from walk n (xs ++ ys) ≡ answers_from walk n xs ++ answers_from walk m ys
answers-append walk n m [] ys e = let same : m ≡ n = omega arith in rw same refl
answers-append walk n m (x ∷ xs) ys e =
    let next : m ≡ suc n + length xs = omega arith in
    ap (λ z. record { number = n; ask = x; walk = walk x } ∷ z) (answers-append walk (suc n) m xs ys next)

-- two engines that answer each ask alike
pub answers-same : (f g : WalkAsk → Option (List ℕ)) (n : ℕ) (asks : List WalkAsk) → ((a : WalkAsk) → f a ≡ g a) → answers_from f n asks ≡ answers_from g n asks
answers-same f g n [] same = refl
answers-same f g n (a ∷ more) same =
    let rest = answers-same f g (suc n) more same in
    let one = same a in
    cc

-- how many asks were received
pub received-none : (walk : WalkAsk → Option (List ℕ)) (asks : List WalkAsk) (answers : List WalkAnswer) → IsAnswered walk asks answers None → length asks ≡ length answers
received-none walk asks answers e =
    sym (answers-length walk 0 asks) ∙ ap length e ∙ ap length (append-nil answers)

pub received-some : (walk : WalkAsk → Option (List ℕ)) (asks : List WalkAsk) (answers : List WalkAnswer) (a : WalkAsk) → IsAnswered walk asks answers (Some a) → length asks ≡ suc (length answers)
received-some walk asks answers a e =
    let long = answers-length walk 0 asks in
    let both : length (answers_from walk 0 asks) ≡ length answers + 1 = ap length e ∙ length-append answers (answers_from walk (length answers) (a ∷ [])) in
    omega arith

-- how many asks were received, in all cases
pub received-all : (walk : WalkAsk → Option (List ℕ)) (asks : List WalkAsk) (answers : List WalkAnswer) (taken : Option WalkAsk) → IsAnswered walk asks answers taken → length asks ≡ length answers + length (option_to_list taken)
received-all walk asks answers taken e =
    sym (answers-length walk 0 asks)
    ∙ ap length e
    ∙ length-append answers (answers_from walk (length answers) (option_to_list taken))
    ∙ ap (λ z. length answers + z) (answers-length walk (length answers) (option_to_list taken))

-- an ask is taken
pub answered-taken : (walk : WalkAsk → Option (List ℕ)) (asks new : List WalkAsk) (answers : List WalkAnswer) (a : WalkAsk) → IsAnswered walk asks answers None → new ≡ asks ++ a ∷ [] → IsAnswered walk new answers (Some a)
answered-taken walk asks new answers a e is =
    let long : length answers ≡ 0 + length asks = (let same = received-none walk asks answers e in omega arith) in
    ap (answers_from walk 0) is
    ∙ answers-append walk 0 (length answers) asks (a ∷ []) long
    ∙ ap (λ z. z ++ answers_from walk (length answers) (a ∷ [])) (e ∙ append-nil answers)

-- what a client had, what its ring held, what was taken and what was asked since are the answers to its asks
pub all-answered : (f g : WalkAsk → Option (List ℕ)) (asks all : List WalkAsk) (answers had left1 left2 left3 : List WalkAnswer) (n : ℕ) (taken : Option WalkAsk)
    → ((a : WalkAsk) → f a ≡ g a) → IsAnswered g asks answers taken → had ++ left1 ≡ answers → n ≡ length answers → left2 ≡ left1 ++ answers_from f n (option_to_list taken)
    → ((before : List WalkAnswer) → answers_from f 0 asks ≡ before ++ left2 → answers_from f 0 all ≡ before ++ left3)
    → had ++ left3 ≡ answers_from f 0 all
all-answered f g asks all answers had left1 left2 left3 n taken same served held long added rest =
    let last : answers_from g (length answers) (option_to_list taken) ≡ answers_from f n (option_to_list taken) = rw long (sym (answers-same f g (length answers) (option_to_list taken) same)) in
    let now : answers_from f 0 asks ≡ had ++ left2 =
    answers-same f g 0 asks same ∙ served ∙ ap (λ z. answers ++ z) last ∙ ap (λ z. z ++ answers_from f n (option_to_list taken)) (sym held) ∙ append_assoc had left1 (answers_from f n (option_to_list taken)) ∙ ap (λ z. had ++ z) (sym added) in
    sym (rest had now)

-- the answers to an ask more
pub answers-more : (walk : WalkAsk → Option (List ℕ)) (asks new : List WalkAsk) (a : WalkAsk) (n : ℕ) (before left now : List WalkAnswer) → new ≡ asks ++ a ∷ [] → n ≡ length asks → answers_from walk 0 asks ≡ before ++ left → now ≡ left ++ record { number = n; ask = a; walk = walk a } ∷ [] → answers_from walk 0 new ≡ before ++ now
answers-more walk asks new a n before left now more long so_far added =
    let place : n ≡ 0 + length asks = omega arith in
    ap (answers_from walk 0) more
    ∙ answers-append walk 0 n asks (a ∷ []) place
    ∙ ap (λ z. z ++ answers_from walk n (a ∷ [])) so_far
    ∙ append_assoc before left (answers_from walk n (a ∷ []))
    ∙ ap (λ z. before ++ z) (sym added)
