-- What words say, read from the left with what was said before them.
use Rattle.std.proofs.Common.{◌≡◌, ◌∙◌, ◌&&◌, ◌||◌, ◌++◌, if◌then◌else◌, Bool, true, false, not, refl, sym, ap, true≢false, List, [], ◌∷◌, find, Option, Some, None, option_map, bytes_eq, append_assoc, append-nil}
use Rattle.std.specs.List.{list_any}
use Rattle.std.proofs.lemmas.Map.Views.{any-filter_same}
use Rattle.walk_top.specs.WordRules.{Said, Text, Word, Dashes, Place, Named, Other, kind_of_word, value_of, knows, without, and_place, and_option, by_word, by_value, said_by, said}
use Rattle.walk_top.proofs.WordArguments.{same_bytes, bytes_same}

abbrev pub nothing : Said
nothing = record { places = []; options = [] }

abbrev pub has_option : Text → List (Text × Text) → Bool
has_option name options = list_any (λ o. bytes_eq o.0 name) options

abbrev pub with_places : List Text → Said → Said
with_places words s = record s { places = s.places ++ words }

abbrev pub with_option : Text → Text → Said → Said
with_option name value s = record s { options = (name, value) ∷ s.options }

-- an option with its value; one that was given before is refused
abbrev pub given : Text → Text → Said → (Said → Option Said) → Option Said
given name value s next = if has_option name s.options then None else next (with_option name value s)

-- `--name=value`, or `--name`, which waits for its value
abbrev pub named : Text → Option Text → Said → (Option Text → Said → Option Said) → Option Said
named name (Some value) s next = given name value s (next None)
named name None s next = next (Some name) s

-- one more word, where an option may be waiting for its value; `next` reads the words after it
abbrev pub word_said : List Text → Option Text → Text → Word → List Text → Said
    → (Option Text → Said → Option Said) → Option Said
word_said names (Some name) word Place rest s next = given name word s (next None)
word_said names (Some name) word _ rest s next = None
word_said names None word Dashes rest s next = Some (with_places rest s)
word_said names None word Place rest s next = next None (with_places (word ∷ []) s)
word_said names None word (Named name value) rest s next = if knows names name then named name value s next else None
word_said names None word Other rest s next = None

-- what these words add to what was said before them, with options of these names
unfoldable pub said_after : List Text → Option Text → Said → List Text → Option Said
said_after names None s [] = Some s
said_after names (Some name) s [] = None
said_after names waiting s (word ∷ rest) =
    word_said names waiting word (kind_of_word word) rest s (λ w t. said_after names w t rest)

-- ---- the same, from what is left

abbrev pub either : Option Text → Option Text → Option Text
either (Some v) other = Some v
either None other = other

-- what was said before and what the words say, together
abbrev pub Agree : Said → Option Said → Option Said → Type 0
Agree s None o = o ≡ None
Agree s (Some u) o = (t : Said) × (o ≡ Some t) × (u.places ≡ s.places ++ t.places)
    × ((n : Text) → value_of n u ≡ either (value_of n s) (value_of n t))

-- one more place
put_place : (w : Text) (s : Said) (r o : Option Said) → Agree (with_places (w ∷ []) s) r o → Agree s r (and_place w o)
put_place w s None o e = ap (and_place w) e
put_place w s (Some u) o a = (
  record a.0 { places = w ∷ a.0.places },
  ap (and_place w) a.1,
  a.2 ∙ append_assoc s.places (w ∷ []) a.0.places,
  a.3,
)

-- an option that wasn't given has no value
no_value : (n : Text) (os : List (Text × Text)) → has_option n os ≡ false → option_map (λ o. o.1) (find (λ o. bytes_eq o.0 n) os) ≡ None
no_value n [] e = refl
no_value n (o ∷ os) e = go (bytes_eq o.0 n) refl (no_value n os)
  where
    go : (b : Bool) → bytes_eq o.0 n ≡ b → (has_option n os ≡ false → option_map (λ o. o.1) (find (λ o. bytes_eq o.0 n) os) ≡ None)
        → option_map (λ o. o.1) (find (λ o. bytes_eq o.0 n) (o ∷ os)) ≡ None
    go true is later = absurd (true≢false (sym (ap (λ b. b || has_option n os) is) ∙ e))
    go false is later = rw is (later (sym (ap (λ b. b || has_option n os) is) ∙ e))

-- one more option
put_option : (name v : Text) (s : Said) (r o : Option Said) → has_option name s.options ≡ false
    → Agree (with_option name v s) r o → Agree s r (and_option name v o)
put_option name v s None o unused e = ap (and_option name v) e
put_option name v s (Some u) o unused a = (
  record a.0 { options = (name, v) ∷ a.0.options },
  ap (and_option name v) a.1,
  a.2,
  λ n. a.3 n ∙ moved n (bytes_eq name n) refl,
)
  where
    moved : (n : Text) (b : Bool) → bytes_eq name n ≡ b
        → either (value_of n (with_option name v s)) (value_of n a.0) ≡ either (value_of n s) (value_of n (record a.0 { options = (name, v) ∷ a.0.options }))
    moved n true e =
        let none : value_of n s ≡ None = ap (λ m. value_of m s) (sym (same_bytes name n e)) ∙ no_value name s.options unused in
        rw (e, none) refl
    moved n false e = rw e refl

and_swap : (a b c : Bool) → (not b && (a && not c)) ≡ (a && not (b || c))
and_swap true true c = refl
and_swap true false c = refl
and_swap false true c = refl
and_swap false false c = refl

bytes_turned : (a b : Text) → bytes_eq a b ≡ bytes_eq b a
bytes_turned a b = go (bytes_eq a b) (bytes_eq b a) refl refl
  where
    go : (x y : Bool) → bytes_eq a b ≡ x → bytes_eq b a ≡ y → x ≡ y
    go true true e f = refl
    go false false e f = refl
    go true false e f = sym (bytes_same b) ∙ (ap (bytes_eq b) (sym (same_bytes a b e)) ∙ f)
    go false true e f = sym e ∙ (ap (bytes_eq a) (same_bytes b a f) ∙ bytes_same a)

module _ (names : List Text) where
  -- the options that may still be given
  abbrev Left : Said → List Text → Type 0
  Left s left = (n : Text) → knows left n ≡ (knows names n && not (has_option n s.options))

  left_without : (name v : Text) (s : Said) (left : List Text) → Left s left → Left (with_option name v s) (without name left)
  left_without name v s left is n =
      let kept : knows (without name left) n ≡ (not (bytes_eq n name) && knows left n) =
      any-filter_same (λ x. bytes_eq x n) (λ x. not (bytes_eq x name)) (not (bytes_eq n name))
      (λ x e. ap (λ y. not (bytes_eq y name)) (same_bytes x n e)) left in
      kept ∙ (ap (λ b. not b && knows left n) (bytes_turned n name) ∙ (ap (λ b. not (bytes_eq name n) && b) (is n)
      ∙ and_swap (knows names n) (bytes_eq name n) (has_option n s.options)))

  abbrev Ready : List Text → Type 0
  Ready words = (s : Said) (left : List Text) → Left s left → Agree s (said_after names None s words) (said_by left None words)

  abbrev Open : List Text → Type 0
  Open words = (name : Text) (s : Said) (left : List Text) → Left s left → has_option name s.options ≡ false
      → Agree s (said_after names (Some name) s words) (said_by left (Some name) words)

  -- an option that was given before
  again : (name : Text) (s : Said) (words : List Text) → has_option name s.options ≡ true → said_after names (Some name) s words ≡ None
  unfolding said_after
  again name s [] e = refl
  again name s (w ∷ ws) e = by (kind_of_word w)
    where
      by : (k : Word) → word_said names (Some name) w k ws s (λ x t. said_after names x t ws) ≡ None
      by Dashes = refl
      by Place = rw e refl
      by (Named n v) = refl
      by Other = refl

  module _ (w : Text) (ws : List Text) (ready : Ready ws) (awaits : Open ws) (s : Said) (left : List Text) (is_left : Left s left) where
    abbrev after : List Text → Option Text → Option Said
    after ns waiting = said_by ns waiting ws

    abbrev so_far_after : Option Text → Said → Option Said
    so_far_after waiting t = said_after names waiting t ws

    at_value : (name v : Text) → has_option name s.options ≡ false
        → Agree s (said_after names None (with_option name v s) ws) (and_option name v (said_by (without name left) None ws))
    at_value name v unused =
        put_option name v s _ _ unused (ready (with_option name v s) (without name left) (left_without name v s left is_left))

    at_name : (name : Text) (value : Option Text) (b c : Bool) → has_option name s.options ≡ c → knows left name ≡ (b && not c)
        → Agree s (if b then named name value s so_far_after else None) (by_word left w ws after (Named name value))
    at_name name (Some v) true true e k = rw (e, k) refl
    at_name name (Some v) true false e k = rw (e, k) (at_value name v e)
    at_name name (Some v) false c e k = rw k refl
    at_name name None true true e k = rw (k, again name s ws e) refl
    at_name name None true false e k = rw k (awaits name s left is_left e)
    at_name name None false c e k = rw k refl

    at_word : (k : Word) → Agree s (word_said names None w k ws s so_far_after) (by_word left w ws after k)
    at_word Dashes = (record { places = ws; options = [] }, refl, refl, λ n. no_more (value_of n s))
      where
        no_more : (v : Option Text) → v ≡ either v None
        no_more None = refl
        no_more (Some x) = refl
    at_word Place = put_place w s _ _ (ready (with_places (w ∷ []) s) left is_left)
    at_word (Named name value) = at_name name value (knows names name) (has_option name s.options) refl (is_left name)
    at_word Other = refl

    at_open : (name : Text) → has_option name s.options ≡ false → (k : Word)
        → Agree s (word_said names (Some name) w k ws s so_far_after) (by_value left name w after k)
    at_open name unused Dashes = refl
    at_open name unused Place = rw unused (at_value name w unused)
    at_open name unused (Named n v) = refl
    at_open name unused Other = refl

  ready_more : (w : Text) (ws : List Text) → Ready ws → Open ws → Ready (w ∷ ws)
  unfolding said_after said_by
  ready_more w ws ready awaits s left is_left = at_word w ws ready awaits s left is_left (kind_of_word w)

  open_more : (w : Text) (ws : List Text) → Ready ws → Open ws → Open (w ∷ ws)
  unfolding said_after said_by
  open_more w ws ready awaits name s left is_left unused = at_open w ws ready awaits s left is_left name unused (kind_of_word w)

  ready_end : Ready []
  unfolding said_after said_by
  ready_end s left is_left = (nothing, refl, sym (append-nil s.places), λ n. no_more (value_of n s))
    where
      no_more : (v : Option Text) → v ≡ either v None
      no_more None = refl
      no_more (Some x) = refl

  open_end : Open []
  unfolding said_after said_by
  open_end name s left is_left unused = refl

  both : (words : List Text) → Ready words × Open words
  both [] = (ready_end, open_end)
  both (w ∷ ws) = let later = both ws in (ready_more w ws later.0 later.1, open_more w ws later.0 later.1)

  all_left : (b : Bool) → b ≡ (b && not false)
  all_left true = refl
  all_left false = refl

  -- from nothing
  pub agree : (words : List Text) → Agree nothing (said_after names None nothing words) (said names words)
  agree words = (both words).0 nothing names (λ n. all_left (knows names n))
