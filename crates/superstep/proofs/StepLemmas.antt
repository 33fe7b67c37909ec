-- A superstep passes from one moment to the next: rounds of all shards, and then what they gave out is posted.
use Rattle.std.proofs.Common.{◌≡◌, ℕ, ◌+◌, ◌^◌, ◌<◌, List, [], ◌∷◌, ◌++◌, map, length, get_or, refl, ap, sym, ◌∙◌, arith, subst, length-append}
use Rattle.std.specs.Prelude.{Option, option_map, sum_by, All, Vec}
use Rattle.std.specs.declared.alloc.Global.{Global}
use Rattle.std.specs.List.Sorted.{IsPermutation}
use Rattle.std.proofs.lemmas.List.{append-nil, length-map, map-append, get_or-map}
use Rattle.std.proofs.lemmas.List.Elements.{All-nil, All-append}
use Rattle.std.proofs.lemmas.List.Sorted.{IsPermutation-map, IsPermutation-trans, IsPermutation-append_left, All-permutation, length_permutation, sum_by-IsPermutation}
use Rattle.walk_model.specs.declared.messages.Letter.{Letter}
use Rattle.csr_store.specs.RowGraph.{RowGraph}
use Rattle.vertex_partition.specs.PartViews.{PartView}
use Rattle.traveller.specs.declared.runs.Run.{Run}
use Rattle.walker_mail.specs.declared.parcels.Addressed.{Addressed}
use Rattle.walker_mail.specs.declared.parcels.Posted.{Posted}
use Rattle.walker_mail.specs.Posts.{letters_of}
use Rattle.walker_mail.proofs.CutLemmas.{All-front}
use Rattle.world_law.specs.Items.{Item as Sent, letter_of}
use Rattle.shard_core.specs.declared.items.Item.{Item}
use Rattle.shard_core.specs.Items.{item_of}
use Rattle.shard_core.specs.Shards.{ShardView}
use Rattle.shard_core.specs.SoundWorlds.{flight_of}
use Rattle.shard_core.specs.Taking.{FitsAmong}
use Rattle.superstep.specs.Boxes.{AreAtHome, AreDelivered, AreSorted, GoesTo, HasPosted, IsDue, addressed_of, boxed, items_in, joined}
use Rattle.superstep.specs.Moments.{moment, IsAddressed, IsGoing, IsSettled, Passes, Stands, sent_of}
use Rattle.superstep.specs.Rounding.{MadeRound, HaveMade, AreReached, arrived}
use Rattle.superstep.proofs.MomentLemmas.{post-leads}
use Rattle.superstep.proofs.RoundLemmas.{all_arrived, all_given, arrived-joined, given-joined}
use Rattle.superstep.proofs.StandLemmas.{all-unmap, each-list, rounds-lead}
use Rattle.superstep.proofs.GoingLemmas.{told-none, passes-then, going-on, room-given}

-- rounds as they were made
rounds-pass : (rs : List MadeRound) (held : List Sent) (carried : ℕ) (log : Option (List Letter)) → AreAtHome (map (λ r. r.arrivals) rs)
    → IsGoing (moment (map (λ r. r.before) rs) [] (all_arrived rs ++ held) carried log)
    → Passes (length (all_arrived rs)) (moment (map (λ r. r.before) rs) [] (all_arrived rs ++ held) carried log)
    (moment (map (λ r. r.after) rs) (all_given rs) held carried log)
    × (All IsSettled (map (λ r. r.after) rs))
rounds-pass rs held carried log home going =
    let goes : (k : ℕ) (d : List Item) → k < length rs → All (GoesTo k) (get_or (map (λ (r : MadeRound). r.arrivals) rs) k d) =
    λ k d low. home k d (omega (arith, low, length-map rs (λ (r : MadeRound). r.arrivals))) in
    let lead = λ (g : RowGraph) (run : Run) (cuts : List ℕ)
    (stands : Stands g run cuts (moment (map (λ (r : MadeRound). r.before) rs) [] (all_arrived rs ++ held) carried log)).
    rounds-lead g run cuts rs held carried carried log log goes stands in (
      record {
        letters = [];
        carried = omega arith;
        logged = told-none log;
        leads = λ g run cuts stands. (lead g run cuts stands).1;
      },
      (lead going.graph going.run going.cuts going.stands).0,
    )

-- the same of what is in boxes
pub made-pass : (befores afters : List ShardView) (boxes : List (List Item)) (given : List (List (Addressed Item))) (held : List Sent)
    (carried : ℕ) (log : Option (List Letter)) → HaveMade befores boxes afters given → AreAtHome boxes
    → IsGoing (moment befores [] (arrived (joined boxes) ++ held) carried log)
    → Passes (length (joined boxes)) (moment befores [] (arrived (joined boxes) ++ held) carried log) (moment afters (flight_of (joined given)) held carried log)
    × (All IsSettled afters)
made-pass befores afters boxes given held carried log made home going =
    let rs = made.rounds in
    let olds = map (λ (r : MadeRound). r.before) rs in
    let news = map (λ (r : MadeRound). r.after) rs in
    let come : all_arrived rs ≡ arrived (joined boxes) = arrived-joined rs ∙ ap (λ l. arrived (joined l)) made.came in
    let out : all_given rs ≡ flight_of (joined given) = given-joined rs ∙ ap (λ l. flight_of (joined l)) made.out in
    let long : length (all_arrived rs) ≡ length (joined boxes) = ap length come ∙ length-map (joined boxes) item_of in
    let start : moment olds [] (all_arrived rs ++ held) carried log ≡ moment befores [] (arrived (joined boxes) ++ held) carried log =
    λ n. moment (made.before n) [] (come n ++ held) carried log in
    let end : moment news (all_given rs) held carried log ≡ moment afters (flight_of (joined given)) held carried log =
    λ n. moment (made.after n) (out n) held carried log in
    let passed = rounds-pass rs held carried log (subst AreAtHome (sym made.came) home) (subst IsGoing (sym start) going) in (
      subst (λ n. Passes n (moment befores [] (arrived (joined boxes) ++ held) carried log) (moment afters (flight_of (joined given)) held carried log)) long
          (subst (λ m. Passes (length (all_arrived rs)) m (moment afters (flight_of (joined given)) held carried log)) start
          (subst (Passes (length (all_arrived rs)) (moment olds [] (all_arrived rs ++ held) carried log)) end passed.0)),
      subst (All IsSettled) made.after passed.1,
    )

-- what shards gave out is addressed as its letters are
due-rounds : (rs : List MadeRound) → All IsDue (joined (map (λ r. r.out) rs))
due-rounds [] = All-nil IsDue
due-rounds (r ∷ rs) =
    All-append IsDue r.out (joined (map (λ (x : MadeRound). x.out) rs)) (λ k d low. (r.fits k d low).addressed) (due-rounds rs)

pub made-due : (befores afters : List ShardView) (boxes : List (List Item)) (given : List (List (Addressed Item)))
    → HaveMade befores boxes afters given → All IsDue (joined given)
made-due befores afters boxes given made = subst (λ l. All IsDue (joined l)) made.out (due-rounds made.rounds)

pub made-long : (befores afters : List ShardView) (boxes : List (List Item)) (given : List (List (Addressed Item)))
    → HaveMade befores boxes afters given → (length given ≡ length befores) × (length afters ≡ length befores)
made-long befores afters boxes given made =
    let rs = made.rounds in (
      omega (arith, ap length made.out, ap length made.before, length-map rs (λ (r : MadeRound). r.out), length-map rs (λ (r : MadeRound). r.before)),
      omega (arith, ap length made.after, ap length made.before, length-map rs (λ (r : MadeRound). r.after), length-map rs (λ (r : MadeRound). r.before)),
    )

-- the letters of what was posted
letters-sent : (ps : List (Posted Item)) → letters_of (λ i. letter_of (item_of i)) ps ≡ map letter_of (sent_of ps)
letters-sent [] = refl
letters-sent (p ∷ ps) = ap (λ l. letter_of (item_of p.item) ∷ l) (letters-sent ps)

pub sent-addressed : (ps : List (Posted Item)) → flight_of (map addressed_of ps) ≡ sent_of ps
sent-addressed [] = refl
sent-addressed (p ∷ ps) = ap (λ l. item_of p.item ∷ l) (sent-addressed ps)

-- what was given out and is posted
pub posted-pass : (shards : List ShardView) (given : List (Addressed Item)) (many : ℕ) (held held_then : List (Posted Item))
    (carried carried_then : ℕ) (log log_then : Option (List Letter)) → HasPosted given many held held_then carried carried_then log log_then
    → Passes 0 (moment shards (flight_of given) (sent_of held) carried log) (moment shards [] (sent_of held_then) carried_then log_then)
posted-pass shards given many held held_then carried carried_then log log_then h =
    let q = sent_of h.posted in
    let moved : IsPermutation (flight_of given) q =
    subst (IsPermutation (flight_of given)) (sent-addressed h.posted)
    (IsPermutation-map (λ (a : Addressed Item). item_of a.item) given (map addressed_of h.posted) h.are) in
    let beside : IsPermutation (sent_of held ++ q) (sent_of held_then) =
    subst (λ l. IsPermutation l (sent_of held_then)) (map-append (λ (p : Posted Item). item_of p.item) held h.posted)
    (IsPermutation-map (λ (p : Posted Item). item_of p.item) (held ++ h.posted) held_then h.beside) in
    record {
      letters = map letter_of q;
      carried = h.counted ∙ ap (λ n. carried + n) (sym (length-map q letter_of ∙ length-map h.posted (λ (p : Posted Item). item_of p.item)));
      logged = h.logged ∙ ap (λ l. option_map (λ told. told ++ l) log) (letters-sent h.posted);
      leads = λ g run cuts stands.
          let Fits : Sent → Type 0 = FitsAmong run.vertices cuts in
          post-leads g run cuts shards (flight_of given) (sent_of held) (sent_of held_then) q carried carried_then log log_then stands
          (λ w. sym (sum_by-IsPermutation w (flight_of given) q moved))
          (λ w. sym (sum_by-IsPermutation w (sent_of held ++ q) (sent_of held_then) beside))
          (All-permutation Fits (sent_of held ++ q) (sent_of held_then) beside
          (All-append Fits (sent_of held) q stands.held (All-permutation Fits (flight_of given) q moved stands.given)));
    }

pub posted-addressed : (given : List (Addressed Item)) (many : ℕ) (held held_then : List (Posted Item)) (carried carried_then : ℕ)
    (log log_then : Option (List Letter)) → HasPosted given many held held_then carried carried_then log log_then → All IsDue given → All IsAddressed held
    → All IsAddressed held_then
posted-addressed given many held held_then carried carried_then log log_then h due addressed =
    let mine : All IsAddressed h.posted = all-unmap IsDue addressed_of h.posted (All-permutation IsDue given (map addressed_of h.posted) h.are due) in
    All-permutation IsAddressed (held ++ h.posted) held_then h.beside (All-append IsAddressed held h.posted addressed mine)

pub posted-count : (given : List (Addressed Item)) (many : ℕ) (held held_then : List (Posted Item)) (carried carried_then : ℕ)
    (log log_then : Option (List Letter)) → HasPosted given many held held_then carried carried_then log log_then → length held_then ≡ length held + many
posted-count given many held held_then carried carried_then log log_then h =
    omega (arith, length_permutation (held ++ h.posted) held_then h.beside, length-append held h.posted, h.count)

pub posted-total : (given : List (Addressed Item)) (many : ℕ) (held held_then : List (Posted Item)) (carried carried_then : ℕ)
    (log log_then : Option (List Letter)) → HasPosted given many held held_then carried carried_then log log_then → carried_then ≡ carried + many
posted-total given many held held_then carried carried_then log log_then h = omega (arith, h.counted, h.count)

-- what is in boxes reaches the shards
pub reached-of : (shards : List ShardView) (boxes : List (List Item)) (held : List Sent) (carried : ℕ) (log : Option (List Letter))
    → length boxes ≡ length shards → AreAtHome boxes → IsGoing (moment shards [] (arrived (joined boxes) ++ held) carried log) → AreReached shards boxes
reached-of shards boxes held carried log long home going =
    let stands = going.stands in
    let Fits : Sent → Type 0 = FitsAmong going.run.vertices going.cuts in
    let all : All (λ i. Fits (item_of i)) (joined boxes) = all-unmap Fits item_of (joined boxes) (All-front Fits (arrived (joined boxes)) held stands.held) in
    record {
      long = long;
      each = λ k s b low i d less.
          let part = stands.shards.parts.each k (get_or shards k s).part (omega (arith, low, length-map shards (λ (x : ShardView). x.part))) in
          let same = stands.shards.runs k s low in
          let there : get_or (map (λ (x : ShardView). x.part) shards) k (get_or shards k s).part ≡ (get_or shards k s).part =
          get_or-map (λ (x : ShardView). x.part) shards k s (get_or shards k s).part low in
          let box : k < length boxes = omega (arith, low, long) in
          let fits = each-list (λ i. Fits (item_of i)) boxes all k b box i d less in
          record {
            to = home k b box i d less ∙ sym part.part ∙ ap (λ (x : PartView). x.part) there;
            fits = subst (λ v. FitsAmong v (get_or shards k s).part.cuts (item_of (get_or (get_or boxes k b) i d))) (sym same.vertices)
                (subst (λ c. FitsAmong going.run.vertices c (item_of (get_or (get_or boxes k b) i d)))
                (sym part.cuts_are ∙ ap (λ (x : PartView). x.cuts) there) fits);
          };
    }

-- what shards gave out can be posted and counted
pub step-room : (befores afters : List ShardView) (boxes : List (List Item)) (given : List (List (Addressed Item))) (held : List Sent)
    (carried : ℕ) (log : Option (List Letter)) → HaveMade befores boxes afters given → AreAtHome boxes
    → IsGoing (moment befores [] (arrived (joined boxes) ++ held) carried log) → carried + length (joined given) < 2 ^ 64
step-room befores afters boxes given held carried log made home going =
    let start = moment befores [] (arrived (joined boxes) ++ held) carried log in
    let middle = moment afters (flight_of (joined given)) held carried log in
    let passed = made-pass befores afters boxes given held carried log made home going in
    let room = room-given middle (going-on (length (joined boxes)) start middle going passed.0) in
    omega (arith, room, length-map (joined given) (λ (a : Addressed Item). item_of a.item))

-- a whole superstep
pub step-pass : (befores afters : List ShardView) (boxes : List (List Item)) (given : List (List (Addressed Item))) (many : ℕ)
    (held held_then : List (Posted Item)) (carried carried_then : ℕ) (log log_then : Option (List Letter)) → HaveMade befores boxes afters given
    → AreAtHome boxes → IsGoing (moment befores [] (arrived (joined boxes) ++ sent_of held) carried log)
    → HasPosted (joined given) many held held_then carried carried_then log log_then
    → Passes (length (joined boxes)) (moment befores [] (arrived (joined boxes) ++ sent_of held) carried log)
    (moment afters [] (sent_of held_then) carried_then log_then)
step-pass befores afters boxes given many held held_then carried carried_then log log_then made home going posted =
    let start = moment befores [] (arrived (joined boxes) ++ sent_of held) carried log in
    let middle = moment afters (flight_of (joined given)) (sent_of held) carried log in
    let end = moment afters [] (sent_of held_then) carried_then log_then in
    let passed = made-pass befores afters boxes given (sent_of held) carried log made home going in
    let rest = posted-pass afters (joined given) many held held_then carried carried_then log log_then posted in
    let none : length (joined boxes) + 0 ≡ length (joined boxes) = omega arith in
    subst (λ n. Passes n start end) none (passes-then (length (joined boxes)) 0 start middle end passed.0 rest)

pub step-settled : (befores afters : List ShardView) (boxes : List (List Item)) (given : List (List (Addressed Item))) (held : List Sent)
    (carried : ℕ) (log : Option (List Letter)) → HaveMade befores boxes afters given → AreAtHome boxes
    → IsGoing (moment befores [] (arrived (joined boxes) ++ held) carried log) → All IsSettled afters
step-settled befores afters boxes given held carried log made home going =
    (made-pass befores afters boxes given held carried log made home going).1

-- the same items held, in another order
pub moved-pass : (shards : List ShardView) (held moved : List Sent) (carried : ℕ) (log : Option (List Letter)) → IsPermutation held moved
    → Passes 0 (moment shards [] held carried log) (moment shards [] moved carried log)
moved-pass shards held moved carried log same = record {
  letters = [];
  carried = omega arith;
  logged = told-none log;
  leads = λ g run cuts stands.
      post-leads g run cuts shards [] held moved [] carried carried log log stands (λ w. refl)
      (λ w. ap (sum_by w) (append-nil held) ∙ sym (sum_by-IsPermutation w held moved same))
      (All-permutation (FitsAmong run.vertices cuts) held moved same stands.held);
}

-- what was handed over is in the boxes
handed-moved : (held items rest : List (Posted Item)) (count : ℕ) (boxes : List (List Item)) → IsPermutation held (items ++ rest)
    → AreDelivered count (items_in items) boxes → IsPermutation (sent_of held) (arrived (joined boxes) ++ sent_of rest)
handed-moved held items rest count boxes moved sorted =
    let whole : IsPermutation (sent_of held) (sent_of items ++ sent_of rest) =
    subst (IsPermutation (sent_of held)) (map-append (λ (p : Posted Item). item_of p.item) items rest)
    (IsPermutation-map (λ (p : Posted Item). item_of p.item) held (items ++ rest) moved) in
    let in_boxes : IsPermutation (sent_of items) (arrived (joined boxes)) =
    subst (λ l. IsPermutation l (arrived (joined boxes))) (sent-in items) (IsPermutation-map item_of (items_in items) (joined boxes) sorted.same) in
    IsPermutation-trans (sent_of held) (sent_of items ++ sent_of rest) (arrived (joined boxes) ++ sent_of rest) whole
    (IsPermutation-append_left (sent_of rest) (sent_of items) (arrived (joined boxes)) in_boxes)
  where
    sent-in : (ps : List (Posted Item)) → map item_of (items_in ps) ≡ sent_of ps
    sent-in [] = refl
    sent-in (p ∷ ps) = ap (λ l. item_of p.item ∷ l) (sent-in ps)

pub handed-pass : (shards : List ShardView) (held items rest : List (Posted Item)) (count : ℕ) (boxes : List (List Item)) (carried carried_then : ℕ)
    (log log_then : Option (List Letter)) → IsPermutation held (items ++ rest) → AreDelivered count (items_in items) boxes
    → carried_then ≡ carried → log_then ≡ log
    → Passes 0 (moment shards [] (sent_of held) carried log) (moment shards [] (arrived (joined boxes) ++ sent_of rest) carried_then log_then)
handed-pass shards held items rest count boxes carried carried_then log log_then moved sorted e f =
    let start = moment shards [] (sent_of held) carried log in
    let there : moment shards [] (arrived (joined boxes) ++ sent_of rest) carried log ≡ moment shards [] (arrived (joined boxes) ++ sent_of rest) carried_then log_then =
    λ n. moment shards [] (arrived (joined boxes) ++ sent_of rest) ((sym e) n) ((sym f) n) in
    subst (Passes 0 start) there
    (moved-pass shards (sent_of held) (arrived (joined boxes) ++ sent_of rest) carried log (handed-moved held items rest count boxes moved sorted))

-- how many were handed over
pub handed-count : (held items rest : List (Posted Item)) (count : ℕ) (boxes : List (List Item)) → IsPermutation held (items ++ rest)
    → AreDelivered count (items_in items) boxes → (length held ≡ length items + length rest) × (length (joined boxes) ≡ length items)
handed-count held items rest count boxes moved sorted = (
  omega (arith, length_permutation held (items ++ rest) moved, length-append items rest),
  omega (arith, length_permutation (items_in items) (joined boxes) sorted.same, length-map items (λ (p : Posted Item). p.item)),
)

-- what is handed over goes to a shard
pub handed-within : (shards : List ShardView) (held items rest : List (Posted Item)) (carried : ℕ) (log : Option (List Letter))
    → IsGoing (moment shards [] (sent_of held) carried log) → All IsAddressed held → IsPermutation held (items ++ rest)
    → All (λ p. p.to < length shards) items
handed-within shards held items rest carried log going addressed moved =
    let stands = going.stands in
    let Fits : Sent → Type 0 = FitsAmong going.run.vertices going.cuts in
    let fits : All (λ (p : Posted Item). Fits (item_of p.item)) held = all-unmap Fits (λ (p : Posted Item). item_of p.item) held stands.held in
    let moved_fits = All-front (λ (p : Posted Item). Fits (item_of p.item)) items rest
    (All-permutation (λ (p : Posted Item). Fits (item_of p.item)) held (items ++ rest) moved fits) in
    let due = All-front IsAddressed items rest (All-permutation IsAddressed held (items ++ rest) moved addressed) in
    λ k d low.
    let a = moved_fits k d low in
    let b = due k d low in
    let to = a.to in
    omega (arith, b, to, stands.shards.parts.count, length-map shards (λ (s : ShardView). s.part))

pub handed-long : (held items rest : List (Posted Item)) → IsPermutation held (items ++ rest) → length held ≡ length items + length rest
handed-long held items rest moved = omega (arith, length_permutation held (items ++ rest) moved, length-append items rest)

pub handed-going : (shards : List ShardView) (held items rest : List (Posted Item)) (count : ℕ) (boxes : List (List Item)) (carried carried_then : ℕ)
    (log log_then : Option (List Letter)) → IsPermutation held (items ++ rest) → AreDelivered count (items_in items) boxes
    → carried_then ≡ carried → log_then ≡ log → IsGoing (moment shards [] (sent_of held) carried log)
    → IsGoing (moment shards [] (arrived (joined boxes) ++ sent_of rest) carried_then log_then)
handed-going shards held items rest count boxes carried carried_then log log_then moved sorted e f going =
    going-on 0 (moment shards [] (sent_of held) carried log) (moment shards [] (arrived (joined boxes) ++ sent_of rest) carried_then log_then) going
    (handed-pass shards held items rest count boxes carried carried_then log log_then moved sorted e f)

-- what is in flight is posted by its senders
out-posted : (Belongs : ℕ → Addressed Item → Type 0) (count : ℕ) (flight : List (Addressed Item)) (boxes : List (Vec (Addressed Item) Global)) (many : ℕ)
    (held held_then : List (Posted Item)) (carried carried_then : ℕ) (log log_then : Option (List Letter)) → AreSorted Belongs count flight boxes → held ≡ []
    → HasPosted (boxed boxes) many held held_then carried carried_then log log_then → HasPosted flight many [] held_then carried carried_then log log_then
out-posted Belongs count flight boxes many held held_then carried carried_then log log_then sorted none h = record {
  posted = h.posted;
  are = IsPermutation-trans flight (boxed boxes) (map addressed_of h.posted) sorted.same h.are;
  count = h.count;
  beside = subst (λ l. IsPermutation (l ++ h.posted) held_then) none h.beside;
  counted = h.counted;
  logged = h.logged;
}

-- all before the first superstep
pub out-pass : (shards : List ShardView) (Belongs : ℕ → Addressed Item → Type 0) (count : ℕ) (flight : List (Addressed Item)) (boxes : List (Vec (Addressed Item) Global))
    (empty : List (List Item)) (many : ℕ) (held held_then : List (Posted Item)) (carried carried_then : ℕ) (log log_then : Option (List Letter))
    → AreSorted Belongs count flight boxes → held ≡ [] → HasPosted (boxed boxes) many held held_then carried carried_then log log_then
    → joined empty ≡ []
    → Passes 0 (moment shards (flight_of flight) [] carried log) (moment shards [] (arrived (joined empty) ++ sent_of held_then) carried_then log_then)
out-pass shards Belongs count flight boxes empty many held held_then carried carried_then log log_then sorted none h nothing =
    let posted = out-posted Belongs count flight boxes many held held_then carried carried_then log log_then sorted none h in
    subst (λ l. Passes 0 (moment shards (flight_of flight) [] carried log) (moment shards [] (arrived l ++ sent_of held_then) carried_then log_then)) (sym nothing)
    (posted-pass shards flight many [] held_then carried carried_then log log_then posted)

pub out-going : (shards : List ShardView) (Belongs : ℕ → Addressed Item → Type 0) (count : ℕ) (flight : List (Addressed Item)) (boxes : List (Vec (Addressed Item) Global))
    (empty : List (List Item)) (many : ℕ) (held held_then : List (Posted Item)) (carried carried_then : ℕ) (log log_then : Option (List Letter))
    → AreSorted Belongs count flight boxes → held ≡ [] → HasPosted (boxed boxes) many held held_then carried carried_then log log_then
    → joined empty ≡ [] → IsGoing (moment shards (flight_of flight) [] carried log)
    → IsGoing (moment shards [] (arrived (joined empty) ++ sent_of held_then) carried_then log_then)
out-going shards Belongs count flight boxes empty many held held_then carried carried_then log log_then sorted none h nothing going =
    going-on 0 (moment shards (flight_of flight) [] carried log) (moment shards [] (arrived (joined empty) ++ sent_of held_then) carried_then log_then) going
    (out-pass shards Belongs count flight boxes empty many held held_then carried carried_then log log_then sorted none h nothing)

pub out-addressed : (Belongs : ℕ → Addressed Item → Type 0) (count : ℕ) (flight : List (Addressed Item)) (boxes : List (Vec (Addressed Item) Global)) (many : ℕ)
    (held held_then : List (Posted Item)) (carried carried_then : ℕ) (log log_then : Option (List Letter)) → AreSorted Belongs count flight boxes → held ≡ []
    → HasPosted (boxed boxes) many held held_then carried carried_then log log_then → All IsDue flight → All IsAddressed held_then
out-addressed Belongs count flight boxes many held held_then carried carried_then log log_then sorted none h due =
    posted-addressed flight many [] held_then carried carried_then log log_then
    (out-posted Belongs count flight boxes many held held_then carried carried_then log log_then sorted none h) due (All-nil IsAddressed)

pub out-room : (shards : List ShardView) (Belongs : ℕ → Addressed Item → Type 0) (count : ℕ) (flight : List (Addressed Item)) (boxes : List (Vec (Addressed Item) Global))
    (carried : ℕ) (log : Option (List Letter)) → AreSorted Belongs count flight boxes → IsGoing (moment shards (flight_of flight) [] carried log)
    → carried + length (boxed boxes) < 2 ^ 64
out-room shards Belongs count flight boxes carried log sorted going =
    omega (
      arith,
      room-given (moment shards (flight_of flight) [] carried log) going,
      length-map flight (λ (a : Addressed Item). item_of a.item),
      length_permutation flight (boxed boxes) sorted.same,
    )

-- how many are held after the first superstep
pub out-count : (Belongs : ℕ → Addressed Item → Type 0) (count : ℕ) (flight : List (Addressed Item)) (boxes : List (Vec (Addressed Item) Global)) (many : ℕ)
    (held held_then : List (Posted Item)) (carried carried_then : ℕ) (log log_then : Option (List Letter)) → AreSorted Belongs count flight boxes → held ≡ []
    → HasPosted (boxed boxes) many held held_then carried carried_then log log_then → length held_then ≡ many
out-count Belongs count flight boxes many held held_then carried carried_then log log_then sorted none h =
    omega (arith, posted-count (boxed boxes) many held held_then carried carried_then log log_then h, ap length none)
