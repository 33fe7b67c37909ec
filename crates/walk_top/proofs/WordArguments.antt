-- What a parse looks up among the arguments of the reader.
use Rattle.std.proofs.Common.{◌≡◌, ◌∙◌, ◌||◌, ℕ, Bool, cond, true, false, refl, sym, ap, true≢false, List, [], ◌∷◌, map, Some, None, bytes_eq}
use Rattle.std.proofs.lemmas.Slice.Eq.{bytes_eq-Decides}
use Rattle.clap.specs.Walk.{Rule, Text, arg_by_id, arg_by_long, arg_by_short}
use Rattle.clap.specs.Simple.{filled}
use Rattle.walk_top.specs.WordRules.{knows}
pub use Rattle.walk_top.specs.WordReader.{place_id, new_place, new_option, reader_app}

pub same_bytes : (a b : Text) → bytes_eq a b ≡ true → a ≡ b
same_bytes a b e = (bytes_eq-Decides a b).0 e

pub bytes_same : (a : Text) → bytes_eq a a ≡ true
bytes_same a = (bytes_eq-Decides a a).1 refl

-- the same, built
abbrev pub place : Rule
place = record (filled new_place) { index = Some 1 }

abbrev pub option : Text → Rule
option name = filled (new_option name)

abbrev pub options : List Text → List Rule
options = map option

abbrev pub all : List Text → List Rule
all names = place ∷ options names

-- ---- looking up

pub long_option : (names : List Text) (name : Text) → arg_by_long (options names) name ≡ cond (knows names name) (Some (option name)) None
long_option [] name = refl
long_option (n ∷ names) name = go (bytes_eq n name) refl (long_option names name)
  where
    go : (b : Bool) → bytes_eq n name ≡ b → arg_by_long (options names) name ≡ cond (knows names name) (Some (option name)) None
        → arg_by_long (options (n ∷ names)) name ≡ cond (knows (n ∷ names) name) (Some (option name)) None
    go true e later = rw e (ap (λ x. Some (option x)) (same_bytes n name e))
    go false e later = rw e later

pub long_all : (names : List Text) (name : Text) → arg_by_long (all names) name ≡ cond (knows names name) (Some (option name)) None
long_all names name = long_option names name

pub id_option : (names : List Text) (name : Text) → knows names name ≡ true → arg_by_id (options names) name ≡ Some (option name)
id_option [] name k = absurd (true≢false (sym k))
id_option (n ∷ names) name k = go (bytes_eq n name) refl (id_option names name)
  where
    go : (b : Bool) → bytes_eq n name ≡ b → (knows names name ≡ true → arg_by_id (options names) name ≡ Some (option name))
        → arg_by_id (options (n ∷ names)) name ≡ Some (option name)
    go true e later = rw e (ap (λ x. Some (option x)) (same_bytes n name e))
    go false e later = rw e (later (ap (λ b. b || knows names name) (sym e) ∙ k))

-- a known name differs from one that isn't known
pub differs : (names : List Text) (other name : Text) → knows names other ≡ false → knows names name ≡ true → bytes_eq other name ≡ false
differs names other name unknown known = go (bytes_eq other name) refl
  where
    go : (b : Bool) → bytes_eq other name ≡ b → bytes_eq other name ≡ false
    go true e = absurd (true≢false (sym known ∙ ap (knows names) (sym (same_bytes other name e)) ∙ unknown))
    go false e = e

pub id_all : (names : List Text) (name : Text) → knows names place_id ≡ false → knows names name ≡ true → arg_by_id (all names) name ≡ Some (option name)
id_all names name fresh k =
    let other : bytes_eq place_id name ≡ false = differs names place_id name fresh k in
    rw other (id_option names name k)

pub id_place : (names : List Text) → arg_by_id (all names) place_id ≡ Some place
id_place names = refl

pub short_option : (names : List Text) (x : ℕ) → arg_by_short (options names) x ≡ None
short_option [] x = refl
short_option (n ∷ names) x = short_option names x

pub short_all : (names : List Text) (x : ℕ) → arg_by_short (all names) x ≡ None
short_all names x = short_option names x
