-- What a parse makes of a word, by its kind.
use Rattle.std.proofs.Common.{◌≡◌, ◌==◌, ℕ, Bool, true, false, refl, ap, [], ◌∷◌, Option, Some, None, bytes_eq}
use Rattle.std.proofs.lemmas.Bool.Decides.{Decides-eqb}
use Rattle.clap.specs.Lexer.{long_of, short_of}
use Rattle.walk_top.specs.WordRules.{Text, Dashes, Place, Named, Other, kind_of_word, value_in}
use Rattle.std.specs.List.{before_first}

abbrev pub two_dashes : Text
two_dashes = 45 ∷ 45 ∷ []

pub data Seen (w : Text) : Type 0 where
  dashes : bytes_eq w two_dashes ≡ true → kind_of_word w ≡ Dashes → Seen w
  named : (name : Text) (value : Option Text) → bytes_eq w two_dashes ≡ false → long_of w ≡ Some (name, value) → kind_of_word w ≡ Named name value → Seen w
  other : (b : ℕ) (bs : Text) → w ≡ 45 ∷ b ∷ bs → bytes_eq w two_dashes ≡ false → long_of w ≡ None → short_of w ≡ Some (b ∷ bs) → kind_of_word w ≡ Other → Seen w
  place : bytes_eq w two_dashes ≡ false → long_of w ≡ None → short_of w ≡ None → kind_of_word w ≡ Place → Seen w

pub seen : (w : Text) → Seen w
seen [] = place refl refl refl refl
seen (a ∷ []) = go (a == 45) refl
  where
    go : (x : Bool) → (a == 45) ≡ x → Seen (a ∷ [])
    go true e = place (rw e refl) (rw e refl) (rw e refl) refl
    go false e = place (rw e refl) (rw e refl) (rw e refl) refl
seen (a ∷ b ∷ []) = go (a == 45) (b == 45) refl refl
  where
    go : (x y : Bool) → (a == 45) ≡ x → (b == 45) ≡ y → Seen (a ∷ b ∷ [])
    go true true e f = dashes (rw (e, f) refl) (rw (e, f) refl)
    go true false e f = other b [] (ap (λ x. x ∷ b ∷ []) ((Decides-eqb a 45).0 e)) (rw (e, f) refl) (rw (e, f) refl) (rw (e, f) refl) (rw (e, f) refl)
    go false y e f = place (rw e refl) (rw e refl) (rw e refl) (rw e refl)
seen (a ∷ b ∷ c ∷ cs) = go (a == 45) (b == 45) refl refl
  where
    go : (x y : Bool) → (a == 45) ≡ x → (b == 45) ≡ y → Seen (a ∷ b ∷ c ∷ cs)
    go true true e f = named (before_first (λ x. x == 61) (c ∷ cs)) (value_in (c ∷ cs)) (rw (e, f) refl) (rw (e, f) refl) (rw (e, f) refl)
    go true false e f = other b (c ∷ cs) (ap (λ x. x ∷ b ∷ c ∷ cs) ((Decides-eqb a 45).0 e)) (rw (e, f) refl) (rw (e, f) refl) (rw (e, f) refl) (rw (e, f) refl)
    go false y e f = place (rw e refl) (rw e refl) (rw e refl) (rw e refl)
