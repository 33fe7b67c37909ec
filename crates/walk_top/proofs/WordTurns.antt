-- What one word does in a parse by the reader.
use Rattle.std.proofs.Common.{◌≡◌, ◌∙◌, ◌&&◌, ℕ, if◌then◌else◌, Bool, cond, true, false, refl, sym, ap, true≢false, List, [], ◌∷◌, Option, Some, None, codes, bytes_eq, chars, slice_get, encode_utf8_all, IsUtf8}
use Rattle.std.proofs.lemmas.Str.{encodes-chars}
use Rattle.clap.specs.Lexer.{long_of, short_of}
use Rattle.clap.specs.Kinds.{Kinds, or_else}
use Rattle.clap.specs.Walk.{Row, Rule, Text, Held, Walk, Waiting, idle, waits, positional, has_row, used, arg_by_long, arg_by_id, arg_by_short, plain_word, settled, settled_rows, subcommand_met, walked, Step, value, is_pending, takes_several, word_met, subcommand_or_other, to_positional, positional_held, pending_count, pushed, long_or_other, short_or_plain, is_multiple, next_position}
use Rattle.clap.specs.Walk as clap
use Rattle.clap.specs.Simple.{Shape, new_shape}
use Rattle.clap.specs.Faults.{settle_fault, turn_fault, flags_fault}
use Rattle.clap.specs.declared.error.kind.ErrorKind.TheVariants as kind
use Rattle.walk_top.specs.WordRules.{knows}
use Rattle.walk_top.proofs.WordArguments.{place_id, place, option, all, long_all, id_all, short_all, bytes_same}
use Rattle.walk_top.proofs.WordKinds.{two_dashes}

-- the reader, built
abbrev pub reader : List Text → Shape
reader names = record (new_shape (codes "words")) {
  rules = all names;
  no_binary_name = true;
  disable_help_flag = true;
  disable_help_subcommand = true;
  disable_version_flag = true;
  is_built = true;
}

abbrev pub Pending : Type 0
Pending = Option (Text × List Text)

abbrev pub held : List Row → Pending → Held
held rows pending = record { rows = rows; pending = pending; skip = 0 }

-- between two words
abbrev pub at : List Row → Pending → Waiting → Bool → Walk
at rows pending waiting trailing =
    record { held = held rows pending; waiting = waiting; position = 1; is_trailing = trailing; stopped = None }

no_subcommand : (waiting : Waiting) (word : Text) → subcommand_met [] waiting word ≡ None
no_subcommand idle word = refl
no_subcommand (clap.option id) word = refl
no_subcommand positional word = refl

pub and_false : (b : Bool) → (b && false) ≡ false
and_false true = refl
and_false false = refl

abbrev is_nil : {X : Type 0} → List X → Bool
is_nil [] = true
is_nil (y ∷ ys) = false

pub cons≢nil : {X : Type 0} (x : X) (xs : List X) → x ∷ xs ≡ [] → ⊥
cons≢nil x xs e = true≢false (sym (ap is_nil e))

pub none_left : (a b : Kinds) → or_else a b ≡ [] → (a ≡ []) × (b ≡ [])
none_left [] b e = (refl, e)
none_left (k ∷ ks) b e = absurd (cons≢nil k ks e)

pub or_nil : (a : Kinds) → or_else a [] ≡ a
or_nil [] = refl
or_nil (k ∷ ks) = refl

repeated : (a : Kinds) (b : Bool) → or_else (or_else a (or_else (if b && true then kind.ArgumentConflict ∷ [] else []) [])) [] ≡ or_else a (if b then kind.ArgumentConflict ∷ [] else [])
repeated a true = or_nil (or_else a (kind.ArgumentConflict ∷ []))
repeated a false = or_nil (or_else a [])

pub known_long : (names : List Text) (name : Text) → knows names name ≡ true → arg_by_long (all names) name ≡ Some (option name)
known_long names name known = long_all names name ∙ ap (λ b. cond b (Some (option name)) None) known

pub unknown_long : (names : List Text) (name : Text) → knows names name ≡ false → arg_by_long (all names) name ≡ None
unknown_long names name known = long_all names name ∙ ap (λ b. cond b (Some (option name)) None) known

pub known_id : (names : List Text) (name : Text) → knows names place_id ≡ false → knows names name ≡ true → arg_by_id (all names) name ≡ Some (option name)
known_id names name fresh known = id_all names name fresh known

-- some character comes first
first_char : (text : Text) → IsUtf8 text → (text ≡ [] → ⊥) → (x : ℕ) × (slice_get (chars text) 0 ≡ Some x)
first_char text u some = go (chars text) (encodes-chars text u) refl
  where
    go : (cs : List ℕ) → encode_utf8_all (chars text) ≡ text → chars text ≡ cs → (x : ℕ) × (slice_get (chars text) 0 ≡ Some x)
    go [] e is = absurd (some (sym e ∙ ap encode_utf8_all is))
    go (c ∷ cs) e is = (c, ap (λ l. slice_get l 0) is)

module _ (names : List Text) (rows : List Row) (pending : Pending) where
  abbrev faults : Kinds
  faults = settle_fault (all names) false (held rows pending)

  abbrev rows_now : List Row
  rows_now = settled_rows (all names) pending rows

  -- `--`
  pub turn_dashes : (waiting : Waiting) (w : Text) → bytes_eq w two_dashes ≡ true
      → (turn_fault (reader names) [] (at rows pending waiting false) w ≡ [])
      × (walked (all names) [] (at rows pending waiting false) w ≡ at rows pending waiting true)
  unfolding walked
  turn_dashes waiting w e = (rw (no_subcommand waiting w) (rw e refl), rw (no_subcommand waiting w) (rw e refl))

  -- `--name=value`
  pub turn_value : (waiting : Waiting) (w name v : Text) → bytes_eq w two_dashes ≡ false → long_of w ≡ Some (name, Some v) → knows names name ≡ true
      → (turn_fault (reader names) [] (at rows pending waiting false) w ≡ or_else faults (if has_row name rows_now then kind.ArgumentConflict ∷ [] else []))
      × (walked (all names) [] (at rows pending waiting false) w ≡ at (used (option name) (v ∷ []) rows_now) None idle false)
  unfolding walked
  turn_value waiting w name v e long known = (
    rw (no_subcommand waiting w) (rw e (rw long (rw (known_long names name known) (repeated faults (has_row name rows_now))))),
    rw (no_subcommand waiting w) (rw e (rw long (rw (known_long names name known) refl))),
  )

  -- `--name`
  pub turn_name : (waiting : Waiting) (w name : Text) → bytes_eq w two_dashes ≡ false → long_of w ≡ Some (name, None) → knows names name ≡ true
      → (turn_fault (reader names) [] (at rows pending waiting false) w ≡ faults)
      × (walked (all names) [] (at rows pending waiting false) w ≡ at rows_now (Some (name, [])) (clap.option name) false)
  unfolding walked
  turn_name waiting w name e long known = (
    rw (no_subcommand waiting w) (rw e (rw long (rw (known_long names name known) (or_nil faults)))),
    rw (no_subcommand waiting w) (rw e (rw long (rw (known_long names name known) refl))),
  )

  -- an option that the reader doesn't have
  pub turn_unknown : (waiting : Waiting) (w name : Text) (v : Option Text) → bytes_eq w two_dashes ≡ false → long_of w ≡ Some (name, v) → knows names name ≡ false
      → turn_fault (reader names) [] (at rows pending waiting false) w ≡ kind.UnknownArgument ∷ []
  turn_unknown waiting w name v e long unknown =
      rw (no_subcommand waiting w) (rw e (rw long (rw (unknown_long names name unknown) refl)))

  -- a word such as `-x`
  pub turn_other : (waiting : Waiting) (w : Text) (b : ℕ) (bs : Text) → IsUtf8 (b ∷ bs) → bytes_eq w two_dashes ≡ false → long_of w ≡ None → short_of w ≡ Some (b ∷ bs)
      → turn_fault (reader names) [] (at rows pending waiting false) w ≡ kind.UnknownArgument ∷ []
  unfolding flags_fault
  turn_other waiting w b bs u e long short =
      let first = first_char (b ∷ bs) u (cons≢nil b bs) in
      rw (no_subcommand waiting w) (rw e (rw long (rw short (rw first.1 (rw (short_all names first.0) refl)))))

  -- a place, where no option waits
  abbrev IsReady : Waiting → Type 0
  IsReady waiting = (w : Text) (h : Held) → plain_word (all names) waiting w h ≡ (h, value)

  abbrev placed_now : Text → Bool → Walk
  placed_now w trailing = at rows_now (Some (place_id, w ∷ [])) positional trailing

  pub turn_place : (waiting : Waiting) (w : Text) → IsReady waiting → bytes_eq w two_dashes ≡ false → long_of w ≡ None → short_of w ≡ None
      → (turn_fault (reader names) [] (at rows pending waiting false) w ≡ faults)
      × (walked (all names) [] (at rows pending waiting false) w ≡ placed_now w false)
  unfolding walked
  turn_place waiting w ready e long short = (
    rw (no_subcommand waiting w) (rw e (rw long (rw short (rw (ready w (held rows pending)) (rw (and_false (is_pending place pending)) refl))))),
    rw (no_subcommand waiting w) (rw e (rw long (rw short (rw (ready w (held rows pending)) (rw (and_false (is_pending place pending)) refl))))),
  )

  -- a place after `--`
  pub turn_trailing : (waiting : Waiting) (w : Text)
      → (turn_fault (reader names) [] (at rows pending waiting true) w ≡ faults)
      × (walked (all names) [] (at rows pending waiting true) w ≡ placed_now w true)
  unfolding walked
  turn_trailing waiting w = (rw (and_false (is_pending place pending)) refl, rw (and_false (is_pending place pending)) refl)

-- the value of an option, as the word after it
module _ (names : List Text) (rows : List Row) (name w : Text) (fresh : knows names place_id ≡ false) (known : knows names name ≡ true) where
  pub turn_open : bytes_eq w two_dashes ≡ false → long_of w ≡ None → short_of w ≡ None
      → (turn_fault (reader names) [] (at rows (Some (name, [])) (clap.option name) false) w ≡ [])
      × (walked (all names) [] (at rows (Some (name, [])) (clap.option name) false) w ≡ at rows (Some (name, w ∷ [])) idle false)
  unfolding walked
  turn_open e long short = (
    rw e (rw long (rw short refl)),
    rw e (rw long (rw short (rw (known_id names name fresh known) (rw (bytes_same name) refl)))),
  )

  -- it waits in vain
  pub open_fails : settle_fault (all names) false (held rows (Some (name, []))) ≡ kind.InvalidValue ∷ []
  open_fails = rw (known_id names name fresh known) refl

  -- its value is there
  pub valued : settle_fault (all names) false (held rows (Some (name, w ∷ []))) ≡ (if has_row name rows then kind.ArgumentConflict ∷ [] else [])
  valued = rw (known_id names name fresh known) (by (has_row name rows))
    where
      by : (b : Bool) → or_else (if b && true then kind.ArgumentConflict ∷ [] else []) [] ≡ (if b then kind.ArgumentConflict ∷ [] else [])
      by true = refl
      by false = refl

  pub valued_rows : settled_rows (all names) (Some (name, w ∷ [])) rows ≡ used (option name) (w ∷ []) rows
  valued_rows = rw (known_id names name fresh known) refl
