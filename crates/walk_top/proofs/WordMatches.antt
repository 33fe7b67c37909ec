-- The command that reads words, built, and what its parse answers.
use Rattle.std.proofs.Common.{◌≡◌, ◌∙◌, ◌&&◌, ◌||◌, ◌++◌, ◌+◌, ℕ, if◌then◌else◌, Bool, cond, true, false, not, refl, sym, ap, ap₂, subst, List, [], ◌∷◌, map, take, Option, Some, None, fold, unwrap_or, is_some, count_by, arith, Bor, length, slice_index_or}
use Rattle.std.proofs.Common.{String, Global, string_bytes, ◌<◌}
use Rattle.std.proofs.lemmas.Str.{IsUtf8-string_bytes}
use Rattle.std.proofs.lemmas.List.{map-append, take_more}
use Rattle.std.specs.List.{list_any, list_all}
use Rattle.clap.specs.Kinds.{Kinds, IsAmong, check_kinds, or_else}
use Rattle.clap.specs.Walk.{Row, Rule, Text, Held, Walk, idle, walk, walk_from, walked, nothing_held, finished, with_default, default_rows, has_row, rows_of, is_early_multiple, reading_by}
use Rattle.clap.specs.Walk as clap
use Rattle.clap.specs.Simple.{App, with_rule, names_of, built, entered, filled_from, is_simple, matches_of, is_in_order, is_buildable, is_ready, is_ready_leaf}
use Rattle.clap.specs.Faults.{fault_of, is_simple_and_free, is_free_app, settle_fault, walk_fault, defaults_fault, check_fault, entered_fault, built_fault}
use Rattle.clap.specs.Takes.{is_given}
use Rattle.clap.specs.Matches.{found_of}
use Rattle.clap.specs.declared.error.kind.ErrorKind.{ErrorKind}
use Rattle.clap.specs.declared.parser.matches.ArgMatches.{ArgMatches}
use Rattle.clap.proofs.WalkLemmas.{first_value-rows, raw_values-rows}
use Rattle.walk_top.specs.WordRules.{Said, knows, said}
use Rattle.walk_top.specs.WordReader.{Reads, new_place, new_option, place_id, reader_app}
use Rattle.walk_top.proofs.WordArguments.{place, option, options, all}
use Rattle.walk_top.proofs.WordTurns.{at, none_left, or_nil, reader}
use Rattle.walk_top.proofs.WordParse.{AreTexts, Judged, judged}
use Rattle.walk_top.proofs.WordsSoFar.{Agree, agree, nothing, said_after}

-- ---- the command, built

filled_options : (i : ℕ) (names : List Text) → filled_from i (map new_option names) ≡ options names
filled_options i [] = refl
filled_options i (n ∷ names) = ap (λ rs. option n ∷ rs) (filled_options i names)

abbrev made : List Text → App
made names = record { top = reader names; subs = [] }

abbrev with_rules : List Text → List Rule → App
with_rules names rules = record { top = record (reader names) { rules = rules }; subs = [] }

pub built_reader : (names : List Text) → built (reader_app names) ≡ made names
built_reader names = ap (λ (rs : List Rule). with_rules names (place ∷ rs)) (filled_options 2 names)

each_option : (p : Rule → Bool) (names : List Text) → ((n : Text) → p (option n) ≡ true) → list_all p (options names) ≡ true
each_option p [] h = refl
each_option p (n ∷ names) h = rw (h n) (each_option p names h)

each_new : (p : Rule → Bool) (names : List Text) → ((n : Text) → p (new_option n) ≡ true) → list_all p (map new_option names) ≡ true
each_new p [] h = refl
each_new p (n ∷ names) h = rw (h n) (each_new p names h)

no_option : (p : Rule → Bool) (names : List Text) → ((n : Text) → p (option n) ≡ false) → list_any p (options names) ≡ false
no_option p [] h = refl
no_option p (n ∷ names) h = rw (h n) (no_option p names h)

counted : (names : List Text) (k : ℕ) → fold (λ a (x : Rule). a + cond (is_some x.index) 1 0) k (options names) ≡ k
counted [] k = refl
counted (n ∷ names) k =
    let same : k + 0 ≡ k = omega arith in
    ap (λ j. fold (λ a (x : Rule). a + cond (is_some x.index) 1 0) j (options names)) same ∙ counted names k

count_all : (names : List Text) → count_by (λ (a : Rule). is_some a.index) (all names) ≡ 1
count_all names = counted names 1

early : (names : List Text) → list_any (is_early_multiple 1) (all names) ≡ false
early names = no_option (is_early_multiple 1) names (λ n. refl)

in_order : (names : List Text) → is_in_order (all names) ≡ true
in_order names = ap (λ n. not (list_any (is_early_multiple n) (all names))) (count_all names) ∙ ap not (early names)

buildable : (names : List Text) → is_buildable (reader_app names) ≡ true
buildable names = ap (λ x. x && true) (each_new (λ a. a.is_simple) names (λ n. refl))

ready : (names : List Text) → (is_ready (reader names) && true) ≡ true
ready names = ap₂ (λ x y. (x && y) && true) (each_option (λ a. a.is_simple) names (λ n. refl)) (in_order names)

pub simple : (names : List Text) → is_simple (reader_app names) ≡ true
simple names = ap₂ (λ x (b : App). x && (is_ready b.top && list_all is_ready_leaf b.subs)) (buildable names) (built_reader names) ∙ ready names

pub simple_and_free : (names : List Text) → is_simple_and_free (reader_app names) ≡ true
simple_and_free names =
    ap₂ (λ x (b : App). x && is_free_app b) (simple names) (built_reader names) ∙ ap (λ x. x && true) (each_option (λ a. a.is_free) names (λ n. refl))

-- one more option
grown : (xs : List Text) (n : Text) → with_rule (reader_app xs) (new_option n) ≡ reader_app (xs ++ n ∷ [])
grown xs n = ap (λ (rs : List Rule). record (reader_app []) { top = record (reader_app []).top { rules = new_place ∷ rs } }) (sym (map-append new_option xs (n ∷ [])))

abbrev pub texts : List (Bor Text) → List Text
texts = map (λ n. n.now)

pub grows : (xs : List (Bor Text)) (i : ℕ) (x : Bor Text) → i < length xs → x ≡ slice_index_or xs i x
    → with_rule (reader_app (texts (take i xs))) (new_option x.now) ≡ reader_app (texts (take (i + 1) xs))
grows xs i x lt at =
    grown (texts (take i xs)) x.now ∙ ap reader_app (sym (map-append (λ n. n.now) (take i xs) (x ∷ [])) ∙ ap texts (sym (taken xs i x lt at)))
  where
    taken : (xs : List (Bor Text)) (i : ℕ) (x : Bor Text) → i < length xs → x ≡ slice_index_or xs i x → take (i + 1) xs ≡ take i xs ++ x ∷ []
    taken xs i x lt at = take_more xs i x lt ∙ ap (λ y. take i xs ++ y ∷ []) (sym at)

-- the words are text
pub are_texts : (words : List (String Global)) → AreTexts (map string_bytes words)
are_texts [] = tt
are_texts (w ∷ ws) = (IsUtf8-string_bytes w, are_texts ws)

-- ---- after the walk

no_default : (rows : List Row) (n : Text) → with_default rows (option n) ≡ rows
no_default rows n = by (has_row n rows)
  where
    by : (b : Bool) → (if b then rows else default_rows n (reading_by (option n)) [] rows) ≡ rows
    by true = refl
    by false = refl

no_place_default : (rows : List Row) → with_default rows place ≡ rows
no_place_default rows = by (has_row place_id rows)
  where
    by : (b : Bool) → (if b then rows else default_rows place_id (reading_by place) [] rows) ≡ rows
    by true = refl
    by false = refl

no_defaults : (names : List Text) (rows : List Row) → fold with_default rows (options names) ≡ rows
no_defaults [] rows = refl
no_defaults (n ∷ names) rows = ap (λ rs. fold with_default rs (options names)) (no_default rows n) ∙ no_defaults names rows

pub finished_is : (names : List Text) (h : Held) → finished (all names) h ≡ (clap.settled (all names) h).rows
finished_is names h = ap (λ rs. fold with_default rs (options names)) (no_place_default _) ∙ no_defaults names _

or_true : (b : Bool) (x : Kinds) → (if (b || true) then [] else x) ≡ []
or_true true x = refl
or_true false x = refl

default_faults : (names : List Text) (rows : List Row) → defaults_fault rows (options names) ≡ []
unfolding defaults_fault
default_faults [] rows = refl
default_faults (n ∷ names) rows =
    ap₂ or_else (or_true (has_row n rows) _) (ap (λ rs. defaults_fault rs (options names)) (no_default rows n) ∙ default_faults names rows)

no_below : (names : List Text) (stop : Option (Text × List Text)) → entered_fault (made names) stop ≡ []
no_below names None = refl
no_below names (Some p) = refl

no_entry : (names : List Text) (stop : Option (Text × List Text)) → is_some (entered (made names) stop) ≡ false
no_entry names None = refl
no_entry names (Some p) = refl

checked : (names : List Text) (rows : List Row) (b : Bool) → b ≡ false → check_fault (reader names) rows b ≡ []
checked names rows b e =
    ap (λ x. check_fault (reader names) rows x) e ∙ ap (λ x. check_kinds false false x) (no_option (λ a. a.required && not (is_given a.id rows)) names (λ n. refl))

all_defaults : (names : List Text) (rows : List Row) → defaults_fault rows (all names) ≡ []
unfolding defaults_fault
all_defaults names rows =
    ap₂ or_else (or_true (has_row place_id rows) _) (ap (λ rs. defaults_fault rs (options names)) (no_place_default rows) ∙ default_faults names rows)

module _ (names : List Text) (words : List Text) where
  abbrev start : Walk
  start = at [] None idle false

  abbrev end : Walk
  end = fold (walked (all names) []) start words

  abbrev walking : Kinds
  walking = walk_fault (reader names) [] start words

  abbrev settling : Kinds
  settling = settle_fault (all names) false end.held

  abbrev last : Kinds → Kinds → Kinds → Kinds
  last below defaults check = or_else walking (or_else below (or_else settling (or_else defaults check)))

  built_fault_is : built_fault (made names) nothing_held words ≡ or_else walking settling
  built_fault_is =
      let below = no_below names end.stopped in
      let defaults = all_defaults names (clap.settled (all names) end.held).rows in
      let check = checked names (finished (all names) end.held) _ (no_entry names end.stopped) in
      ap (λ b. last b (defaults_fault (clap.settled (all names) end.held).rows (all names)) (check_fault (reader names) (finished (all names) end.held) (is_some (entered (made names) end.stopped)))) below
      ∙ ap₂ (λ d k. last [] d k) defaults check ∙ ap (or_else walking) (or_nil settling)

  pub fault_is : fault_of (reader_app names) words ≡ or_else walking settling
  fault_is = ap (λ b. built_fault b nothing_held words) (built_reader names) ∙ built_fault_is

  pub matches_are : matches_of (reader_app names) words ≡ (clap.settled (all names) end.held).rows
  matches_are = ap (λ (b : App). clap.rows_after b.top.rules (names_of b) words) (built_reader names) ∙ finished_is names end.held

  module _ (fresh : knows names place_id ≡ false) (utf8 : AreTexts words) where
    pub answers : (m : ArgMatches) → fault_of (reader_app names) words ≡ [] → rows_of (found_of m) ≡ matches_of (reader_app names) words → Reads names words (Some m)
    answers m no_fault rows = go (said_after names None nothing words) (judged names fresh words utf8) (agree names words)
      where
        go : (o : Option Said) → Judged names fresh o start words → Agree nothing o (said names words) → Reads names words (Some m)
        go None fails agrees =
            let none = none_left walking settling (sym fault_is ∙ no_fault) in
            absurd (fails none.0 none.1)
        go (Some s) gives agrees =
            let same = rows ∙ matches_are in (
              agrees.0,
              agrees.1,
              ap (λ o. unwrap_or o []) (raw_values-rows (found_of m) place_id ∙ ap (clap.all_of place_id) same) ∙ gives.holds.places ∙ agrees.2,
              λ n k. first_value-rows (found_of m) n ∙ ap (clap.first_of n) same ∙ gives.holds.values n k ∙ agrees.3 n,
            )

    pub refuses : (k : ErrorKind) → IsAmong k (fault_of (reader_app names) words) → said names words ≡ None
    refuses k among = go (said_after names None nothing words) (judged names fresh words utf8) (agree names words)
      where
        go : (o : Option Said) → Judged names fresh o start words → Agree nothing o (said names words) → said names words ≡ None
        go None fails agrees = agrees
        go (Some s) gives agrees =
            let none : fault_of (reader_app names) words ≡ [] = fault_is ∙ ap₂ or_else gives.walks gives.settles in
            absurd (subst (IsAmong k) none among)
