-- What the calls of a shard tell.
use Rattle.std.proofs.Common.{◌≡◌, ◌≤◌, ◌<◌, ◌+◌, ℕ, suc, Bool, true, false, IsTrue, List, [], ◌∷◌, ◌++◌, length, refl, sym, ap, subst, ◌∙◌, arith, rules}
use Rattle.std.proofs.lemmas.Bool.{false≢true}
use Rattle.std.proofs.lemmas.Bool.Decides.{nat_tests}
use Rattle.std.specs.Prelude.{◌==◌, All, sum_by, Option, None, Some}
use Rattle.std.proofs.lemmas.List.Elements.{All-cons}
use Rattle.std.proofs.lemmas.List.Sums.{sum_by-append, sum_by-cons}
use Rattle.traveller.specs.declared.modes.Mode.{Mode}
use Rattle.traveller.specs.declared.modes.Mode.TheVariants.{Fresh, Darts, Asked, AskedRow, Chosen, Over}
use Rattle.traveller.specs.declared.runs.Run.{Run}
use Rattle.traveller.specs.Walkers.{Walker, is_over, is_ready, question_of}
use Rattle.vertex_partition.specs.PartViews.{PartView}
use Rattle.world_law.specs.Finishing.{unfinished, unfinished_mode}
use Rattle.walk_model.specs.declared.messages.Question.{Question}
use Rattle.walk_model.specs.declared.messages.Question.TheVariants as question
use Rattle.walk_model.specs.declared.messages.Letter.{Letter}
use Rattle.walk_model.specs.Cuts.{owner}
use Rattle.query_batch.specs.Numbers.{IsWithin as IsAskedWithin}
use Rattle.traveller.specs.Walkers.{asked_vertex}
use Rattle.vertex_partition.specs.PartViews.{Owns}
use Rattle.world_law.specs.Items.{Item, letter_of}
use Rattle.shard_core.specs.KeptShards.{IsReadyIn, WaitsIn, HasEndedIn}
use Rattle.shard_core.specs.Taking.{Suited, Takes}

-- a test of two numbers, and whether they are the same
pub same-yes : (b : Bool) (x y : ℕ) → b ≡ (x == y) → x ≡ y → IsTrue b
same-yes b x y e same =
    let here : (x == y) ≡ true = grind (arith, nat_tests) in
    e ∙ here

pub same-no : (b : Bool) (x y : ℕ) → b ≡ (x == y) → IsTrue b → x ≡ y
same-no b x y e true_is =
    let here : (x == y) ≡ true = sym e ∙ true_is in
    grind (arith, nat_tests)

-- a walker that can go on, one that waits, and one that has ended
mode-ready : (m : Mode) → is_ready m ≡ true → unfinished_mode m ≡ 1
mode-ready Fresh e = refl
mode-ready (Darts left place) e = refl
mode-ready (Asked left place q) e = refl
mode-ready (AskedRow place q) e = refl
mode-ready (Chosen edge place) e = refl
mode-ready Over e = absurd (false≢true e)

mode-waits : (m : Mode) (q : Question) → question_of m ≡ Some q → unfinished_mode m ≡ 1
mode-waits Fresh q e = refl
mode-waits (Darts left place) q e = refl
mode-waits (Asked left place r) q e = refl
mode-waits (AskedRow place r) q e = refl
mode-waits (Chosen edge place) q e = refl
mode-waits Over q e = absurd (false≢true (ap (λ (o : Option Question). elim o [ None ↦ false | Some x ↦ true ]) e))

mode-over : (m : Mode) → is_over m ≡ true → unfinished_mode m ≡ 0
mode-over Fresh e = absurd (false≢true e)
mode-over (Darts left place) e = absurd (false≢true e)
mode-over (Asked left place q) e = absurd (false≢true e)
mode-over (AskedRow place q) e = absurd (false≢true e)
mode-over (Chosen edge place) e = absurd (false≢true e)
mode-over Over e = refl

-- how many of some walkers are unfinished, where each of them is, or none
all-unfinished : (ws : List Walker) → All (λ w. unfinished w ≡ 1) ws → sum_by unfinished ws ≡ length ws
all-unfinished [] h = refl
all-unfinished (w ∷ ws) h =
    let first : unfinished w ≡ 1 = h 0 w (omega arith) in
    let rest = all-unfinished ws (λ k d low. h (suc k) d (omega (arith, low))) in
    sum_by-cons unfinished w ws ∙ omega (arith, first, rest)

none-unfinished : (ws : List Walker) → All (λ w. unfinished w ≡ 0) ws → sum_by unfinished ws ≡ 0
none-unfinished [] h = refl
none-unfinished (w ∷ ws) h =
    let first : unfinished w ≡ 0 = h 0 w (omega arith) in
    let rest = none-unfinished ws (λ k d low. h (suc k) d (omega (arith, low))) in
    sum_by-cons unfinished w ws ∙ omega (arith, first, rest)

pub three-unfinished : (run : Run) (p : PartView) (ready waiting ended : List Walker) → All (IsReadyIn run p) ready
    → All (WaitsIn run p) waiting → All (HasEndedIn run p) ended
    → length ready + length waiting ≡ sum_by unfinished (ready ++ (waiting ++ ended))
three-unfinished run p ready waiting ended r w e =
    let a = all-unfinished ready (λ k d low. mode-ready _ ((r k d low).ready)) in
    let b = all-unfinished waiting (λ k d low. mode-waits _ _ ((w k d low).waits)) in
    let c = none-unfinished ended (λ k d low. mode-over _ ((e k d low).over)) in
    let one = sum_by-append unfinished ready (waiting ++ ended) in
    let two = sum_by-append unfinished waiting ended in
    omega (arith, a, b, c, one, two)

-- an item is taken in where its letter goes to the part and comes from one of the parts, and it suits the part
pub takes-by : (vertices : ℕ) (p : PartView) (i : Item) (l : Letter) (part parts : ℕ) → l ≡ letter_of i → part ≡ p.part
    → parts ≡ length p.cuts + 1 → l.to ≡ part → l.from < parts → Suited vertices p i → Takes vertices p i
takes-by vertices p i l part parts is here many to from suits = record {
  to = sym (ap (λ (m : Letter). m.to) is) ∙ to ∙ here;
  from = (let same = ap (λ (m : Letter). m.from) is in omega (arith, same, many, from));
  suited = suits;
}

-- the vertex that is asked about is a vertex
pub asked-below : (vertices : ℕ) (q : Question) → IsAskedWithin vertices q → asked_vertex q < vertices
asked-below vertices (question.Edge t x) h = h.0
asked-below vertices (question.Row t) h = h

-- the owner of the vertex that is asked about, as it was tested
pub asked-owned : (vertices : ℕ) (p : PartView) (q : Question) (b : Bool) (v : ℕ) → vertices ≡ p.vertices → IsAskedWithin vertices q
    → v ≡ asked_vertex q → b ≡ (owner p.cuts v == p.part) → IsTrue b → Owns p (asked_vertex q)
asked-owned vertices p q b v same within is test holds = record {
  below = (let low = asked-below vertices q within in omega (arith, low, same));
  owner_is = ap (owner p.cuts) (sym is) ∙ same-no b (owner p.cuts v) p.part test holds;
}

pub owned-asked : (p : PartView) (q : Question) (b : Bool) (v : ℕ) → v ≡ asked_vertex q → b ≡ (owner p.cuts v == p.part)
    → Owns p (asked_vertex q) → IsTrue b
owned-asked p q b v is test owns = same-yes b (owner p.cuts v) p.part test (ap (owner p.cuts) is ∙ owns.owner_is)
