-- A parse by the reader finds what the words say.
use Rattle.std.proofs.Common.{◌≡◌, ◌∙◌, ℕ, if◌then◌else◌, Bool, true, false, refl, sym, ap, ap₂, subst, true≢false, List, [], ◌∷◌, Option, Some, None, fold, bytes_eq, IsUtf8, arith, append_assoc, append-nil}
use Rattle.std.proofs.lemmas.Str.{IsUtf8-drop, IsCharBoundary-after_ascii}
use Rattle.clap.specs.Lexer.{long_of, short_of}
use Rattle.clap.specs.Kinds.{Kinds, or_else}
use Rattle.clap.specs.Walk.{Row, Text, Walk, Waiting, idle, positional, has_row, used, settled_rows, walked}
use Rattle.clap.specs.Walk as clap
use Rattle.clap.specs.Faults.{settle_fault, turn_fault, walk_fault}
use Rattle.clap.specs.declared.error.kind.ErrorKind.TheVariants as kind
use Rattle.walk_top.specs.WordRules.{Said, knows}
use Rattle.walk_top.proofs.WordsSoFar.{given, has_option, nothing, said_after, with_option, with_places, word_said}
use Rattle.walk_top.proofs.WordsSoFar as so_far
use Rattle.walk_top.proofs.WordArguments.{place_id, option, all}
use Rattle.walk_top.proofs.WordRows.{Holds, holds_option, holds_place}
use Rattle.walk_top.proofs.WordKinds.{Seen, seen, two_dashes, dashes, named, other}
use Rattle.walk_top.proofs.WordKinds as word
use Rattle.walk_top.proofs.WordTurns.{Pending, at, held, reader, cons≢nil, none_left, open_fails, turn_dashes, turn_name, turn_open, turn_other, turn_place, turn_trailing, turn_unknown, turn_value, valued, valued_rows}

some≢none : {X : Type 0} {x : X} → Some x ≡ None → ⊥
some≢none e = true≢false (ap Rattle.std.specs.Option.is_some e)

after_dash : (b : ℕ) (bs : Text) → IsUtf8 (45 ∷ b ∷ bs) → IsUtf8 (b ∷ bs)
after_dash b bs u = IsUtf8-drop (45 ∷ b ∷ bs) 1 u (IsCharBoundary-after_ascii (45 ∷ b ∷ bs) 0 u (omega arith) (omega arith))

-- each word is text
abbrev pub AreTexts : List Text → Type 0
AreTexts [] = Unit {0}
AreTexts (w ∷ ws) = IsUtf8 w × AreTexts ws

-- the fault of a word that settles what is pending, which is fine, and gives an option
abbrev repeat : Bool → Kinds
repeat b = if b then kind.ArgumentConflict ∷ [] else []

module _ (names : List Text) (fresh : knows names place_id ≡ false) where
  abbrev end_of : Walk → List Text → Walk
  end_of w words = fold (walked (all names) []) w words

  -- the words after w are refused
  abbrev pub Fails : Walk → List Text → Type 0
  Fails w words = walk_fault (reader names) [] w words ≡ [] → settle_fault (all names) false (end_of w words).held ≡ [] → ⊥

  -- they are taken, and give s
  pub record Gives (w : Walk) (words : List Text) (s : Said) : Type 0 where
    pub walks : walk_fault (reader names) [] w words ≡ []
    pub settles : settle_fault (all names) false (end_of w words).held ≡ []
    pub holds : Holds names (clap.settled (all names) (end_of w words).held).rows s

  abbrev pub Judged : Option Said → Walk → List Text → Type 0
  Judged None w words = Fails w words
  Judged (Some s) w words = Gives w words s

  -- one word, of which the parse has no fault
  step : (o : Option Said) (w next : Walk) (word : Text) (words : List Text) → (turn_fault (reader names) [] w word ≡ []) × (walked (all names) [] w word ≡ next)
      → Judged o next words → Judged o w (word ∷ words)
  unfolding walk_fault
  step None w next word words turn later = λ walks. subst (λ n. Fails n words) (sym turn.1) later (rw turn.0 at walks)
  step (Some s) w next word words turn later =
      let g = subst (λ n. Gives n words s) (sym turn.1) later in
      record { walks = rw turn.0 g.walks; settles = g.settles; holds = g.holds }

  -- one word that is refused
  stops : (w : Walk) (word : Text) (words : List Text) → (turn_fault (reader names) [] w word ≡ [] → ⊥) → Fails w (word ∷ words)
  unfolding walk_fault
  stops w word words bad walks settles = bad (none_left (turn_fault (reader names) [] w word) _ walks).0

  -- what is pending will be refused
  abbrev Doomed : List Row → Pending → Type 0
  Doomed rows pending = settle_fault (all names) false (held rows pending) ≡ [] → ⊥

  doomed_trailing : (rows : List Row) (pending : Pending) (waiting : Waiting) → Doomed rows pending → (words : List Text) → Fails (at rows pending waiting true) words
  doomed_trailing rows pending waiting bad [] = λ walks settles. bad settles
  doomed_trailing rows pending waiting bad (w ∷ ws) =
      stops _ w ws (λ e. bad (sym (turn_trailing names rows pending waiting w).0 ∙ e))

  waits_in_vain : (rows : List Row) (name : Text) → knows names name ≡ true → Doomed rows (Some (name, []))
  waits_in_vain rows name known e = cons≢nil _ _ (sym (open_fails names rows name name fresh known) ∙ e)

  -- a word at which what is pending is refused
  refused_turn : (rows : List Row) (pending : Pending) (waiting : Waiting) (w : Text) (ws : List Text) → IsUtf8 w → Doomed rows pending
      → (bytes_eq w two_dashes ≡ false → long_of w ≡ None → short_of w ≡ None → Fails (at rows pending waiting false) (w ∷ ws))
      → Fails (at rows pending waiting false) (w ∷ ws)
  refused_turn rows pending waiting w ws u bad at_place = by (seen w)
    where
      by : Seen w → Fails (at rows pending waiting false) (w ∷ ws)
      by (dashes e k) = step None (at rows pending waiting false) (at rows pending waiting true) w ws (turn_dashes names rows pending waiting w e) (doomed_trailing rows pending waiting bad ws)
      by (named name v e long k) = at_name v long (knows names name) refl
        where
          at_name : (v : Option Text) → long_of w ≡ Some (name, v) → (b : Bool) → knows names name ≡ b → Fails (at rows pending waiting false) (w ∷ ws)
          at_name v long false unknown = stops _ w ws (λ t. cons≢nil _ _ (sym (turn_unknown names rows pending waiting w name v e long unknown) ∙ t))
          at_name (Some v) long true known = stops _ w ws (λ t. bad (none_left _ _ (sym (turn_value names rows pending waiting w name v e long known).0 ∙ t)).0)
          at_name None long true known = stops _ w ws (λ t. bad (sym (turn_name names rows pending waiting w name e long known).0 ∙ t))
      by (other b bs is e long short k) =
          stops _ w ws (λ t. cons≢nil _ _ (sym (turn_other names rows pending waiting w b bs (after_dash b bs (subst IsUtf8 is u)) e long short) ∙ t))
      by (word.place e long short k) = at_place e long short

  doomed : (rows : List Row) (pending : Pending) → Doomed rows pending → (words : List Text) → AreTexts words → Fails (at rows pending idle false) words
  doomed rows pending bad [] utf8 = λ walks settles. bad settles
  doomed rows pending bad (w ∷ ws) utf8 = refused_turn rows pending idle w ws utf8.0 bad
      (λ e long short. stops _ w ws (λ t. bad (sym (turn_place names rows pending idle w (λ x h. refl) e long short).0 ∙ t)))

  -- ---- after `--`

  trailing : (rows : List Row) (pending : Pending) (waiting : Waiting) (s : Said) → settle_fault (all names) false (held rows pending) ≡ []
      → Holds names (settled_rows (all names) pending rows) s → (words : List Text) → Gives (at rows pending waiting true) words (with_places words s)
  unfolding walk_fault
  trailing rows pending waiting s fine holds [] =
      record { walks = refl; settles = fine; holds = record { places = holds.places ∙ sym (append-nil s.places); values = holds.values; has = holds.has } }
  trailing rows pending waiting s fine holds (w ∷ ws) =
      let turn = turn_trailing names rows pending waiting w in
      let now = settled_rows (all names) pending rows in
      let later = trailing now (Some (place_id, w ∷ [])) positional (with_places (w ∷ []) s) refl (holds_place names w now s fresh holds) ws in
      step (Some (with_places (w ∷ ws) s)) (at rows pending waiting true) (at now (Some (place_id, w ∷ [])) positional true) w ws (turn.0 ∙ fine, turn.1)
      (subst (λ ps. Gives (at now (Some (place_id, w ∷ [])) positional true) ws (record s { places = ps })) (append_assoc s.places (w ∷ []) ws) later)

  -- ---- before it

  abbrev IsPlain : Waiting → Type 0
  IsPlain waiting = (w : Text) (h : clap.Held) → clap.plain_word (all names) waiting w h ≡ (h, clap.value)

  -- no option waits for its value
  abbrev Ready : List Text → Type 0
  Ready words = (rows : List Row) (pending : Pending) (waiting : Waiting) (s : Said) → IsPlain waiting
      → settle_fault (all names) false (held rows pending) ≡ [] → Holds names (settled_rows (all names) pending rows) s
      → Judged (said_after names None s words) (at rows pending waiting false) words

  -- an option does
  abbrev Open : List Text → Type 0
  Open words = (rows : List Row) (name : Text) (s : Said) → knows names name ≡ true → Holds names rows s
      → Judged (said_after names (Some name) s words) (at rows (Some (name, [])) (clap.option name) false) words

  ready_end : Ready []
  unfolding said_after walk_fault
  ready_end rows pending waiting s plain fine holds = record { walks = refl; settles = fine; holds = holds }

  open_end : Open []
  unfolding said_after
  open_end rows name s known holds = λ walks settles. waits_in_vain rows name known settles

  module _ (w : Text) (ws : List Text) (u : IsUtf8 w) (us : AreTexts ws) (then_ready : Ready ws) where
    -- what comes after an option's value, where the option is pending or was used
    module _ (rows : List Row) (pending : Pending) (waiting : Waiting) (s : Said) (plain : IsPlain waiting)
        (fine : settle_fault (all names) false (held rows pending) ≡ []) (holds : Holds names (settled_rows (all names) pending rows) s) (then_open : Open ws) where
      abbrev now : List Row
      now = settled_rows (all names) pending rows

      abbrev here : Walk
      here = at rows pending waiting false

      abbrev After : Option Said → Type 0
      After o = Judged o here (w ∷ ws)

      at_value : (name v : Text) → bytes_eq w two_dashes ≡ false → long_of w ≡ Some (name, Some v) → knows names name ≡ true
          → After (given name v s (λ t. said_after names None t ws))
      at_value name v e long known = go (has_option name s.options) refl
        where
          go : (b : Bool) → has_option name s.options ≡ b → After (if b then None else said_after names None (with_option name v s) ws)
          go true again =
              let turn = turn_value names rows pending waiting w name v e long known in
              let was : has_row name now ≡ true = holds.has name known ∙ again in
              stops here w ws (λ t. cons≢nil _ _ (sym (turn.0 ∙ ap₂ or_else fine (ap repeat was)) ∙ t))
          go false again =
              let turn = turn_value names rows pending waiting w name v e long known in
              let was : has_row name now ≡ false = holds.has name known ∙ again in
              step (said_after names None (with_option name v s) ws) here _ w ws (turn.0 ∙ ap₂ or_else fine (ap repeat was), turn.1)
              (then_ready (used (option name) (v ∷ []) now) None idle (with_option name v s) (λ x h. refl) refl (holds_option names name v now s fresh known again holds))

      at_name : (name : Text) (v : Option Text) → bytes_eq w two_dashes ≡ false → long_of w ≡ Some (name, v) → (b : Bool) → knows names name ≡ b
          → After (if b then so_far.named name v s (λ waits t. said_after names waits t ws) else None)
      at_name name (Some v) e long true known = at_value name v e long known
      at_name name None e long true known =
          let turn = turn_name names rows pending waiting w name e long known in
          step (said_after names (Some name) s ws) here _ w ws (turn.0 ∙ fine, turn.1) (then_open now name s known holds)
      at_name name v e long false unknown = stops here w ws (λ t. cons≢nil _ _ (sym (turn_unknown names rows pending waiting w name v e long unknown) ∙ t))

      by_word : Seen w → After (said_after names None s (w ∷ ws))
      unfolding said_after
      by_word (dashes e k) = rw k (step (Some (with_places ws s)) here (at rows pending waiting true) w ws (turn_dashes names rows pending waiting w e) (trailing rows pending waiting s fine holds ws))
      by_word (named name v e long k) = rw k (at_name name v e long (knows names name) refl)
      by_word (other b bs is e long short k) =
          rw k (stops here w ws (λ t. cons≢nil _ _ (sym (turn_other names rows pending waiting w b bs (after_dash b bs (subst IsUtf8 is u)) e long short) ∙ t)))
      by_word (word.place e long short k) =
          let turn = turn_place names rows pending waiting w plain e long short in
          rw k (step (said_after names None (with_places (w ∷ []) s) ws) here (at now (Some (place_id, w ∷ [])) positional false) w ws (turn.0 ∙ fine, turn.1)
          (then_ready now (Some (place_id, w ∷ [])) positional (with_places (w ∷ []) s) (λ x h. refl) refl (holds_place names w now s fresh holds)))

    ready_more : Open ws → Ready (w ∷ ws)
    ready_more then_open rows pending waiting s plain fine holds = by_word rows pending waiting s plain fine holds then_open (seen w)

    module _ (rows : List Row) (name : Text) (s : Said) (known : knows names name ≡ true) (holds : Holds names rows s) where
      abbrev open_here : Walk
      open_here = at rows (Some (name, [])) (clap.option name) false

      got_value : (b : Bool) → has_option name s.options ≡ b → Judged (if b then None else said_after names None (with_option name w s) ws) (at rows (Some (name, w ∷ [])) idle false) ws
      got_value true again =
          let was : has_row name rows ≡ true = holds.has name known ∙ again in
          let fault = valued names rows name w fresh known in
          doomed rows (Some (name, w ∷ [])) (λ e. cons≢nil _ _ (sym (fault ∙ ap repeat was) ∙ e)) ws us
      got_value false again =
          let was : has_row name rows ≡ false = holds.has name known ∙ again in
          let fault = valued names rows name w fresh known in
          then_ready rows (Some (name, w ∷ [])) idle (with_option name w s) (λ x h. refl) (fault ∙ ap repeat was)
          (subst (λ rs. Holds names rs (with_option name w s)) (sym (valued_rows names rows name w fresh known)) (holds_option names name w rows s fresh known again holds))

      in_vain : (bytes_eq w two_dashes ≡ false → long_of w ≡ None → short_of w ≡ None → Fails open_here (w ∷ ws)) → Fails open_here (w ∷ ws)
      in_vain at_place = refused_turn rows (Some (name, [])) (clap.option name) w ws u (waits_in_vain rows name known) at_place

      by_open_word : Seen w → Judged (said_after names (Some name) s (w ∷ ws)) open_here (w ∷ ws)
      unfolding said_after
      by_open_word (dashes e k) = rw k (in_vain (λ f long short. absurd (true≢false (sym e ∙ f))))
      by_open_word (named n v e long k) = rw k (in_vain (λ f none short. absurd (some≢none (sym long ∙ none))))
      by_open_word (other b bs is e long short k) = rw k (in_vain (λ f none nothing. absurd (some≢none (sym short ∙ nothing))))
      by_open_word (word.place e long short k) =
          let turn = turn_open names rows name w fresh known e long short in
          rw k (step (given name w s (λ t. said_after names None t ws)) open_here (at rows (Some (name, w ∷ [])) idle false) w ws turn (got_value (has_option name s.options) refl))

    open_more : Open (w ∷ ws)
    open_more rows name s known holds = by_open_word rows name s known holds (seen w)

  both : (words : List Text) → AreTexts words → Ready words × Open words
  both [] utf8 = (ready_end, open_end)
  both (w ∷ ws) utf8 =
      let later = both ws utf8.1 in
      (ready_more w ws utf8.0 utf8.1 later.0 later.1, open_more w ws utf8.0 utf8.1 later.0)

  -- the whole: from nothing
  pub judged : (words : List Text) → AreTexts words → Judged (said_after names None nothing words) (at [] None idle false) words
  judged words utf8 = (both words utf8).0 [] None idle nothing (λ x h. refl) refl (record { places = refl; values = λ n k. refl; has = λ n k. refl })
