-- What a part knows is enough for its events.
use Rattle.std.proofs.Common.{◌≡◌, ℕ, zero, suc, ◌+◌, ◌/◌, ◌%◌, Bool, true, false, cond, not, ◌&&◌, List, [], ◌∷◌, map, refl, ap, sym, ◌∙◌, arith, None, Some, subst, min, max}
use Rattle.std.specs.Prelude.{Option, option_map, option_and_then, slice_index, filter, ◌==◌, nat_lt, nat_le, if◌then◌else◌}
use Rattle.std.specs.List.{list_any}
use Rattle.std.proofs.lemmas.Bool.{false≢true, eqb-true, eq-eqb}
use Rattle.std.proofs.lemmas.Bool.Decides.{nat_tests}
use Rattle.std.proofs.lemmas.Option.{none-some}
use Rattle.walk_model.specs.declared.graph.Edge.{Edge}
use Rattle.walk_model.specs.declared.programme.Rule.{Rule}
use Rattle.walk_model.specs.declared.programme.Rule.TheVariants.{Plain, Scheme, Node2vec}
use Rattle.walk_model.specs.declared.messages.Question.{Question}
use Rattle.walk_model.specs.declared.messages.Question.TheVariants as question
use Rattle.walk_model.specs.declared.states.State.{State}
use Rattle.walk_model.specs.Words.{fold_word}
use Rattle.walk_model.specs.Graph.{row, with_edge, has_edge, ends_of}
use Rattle.walk_model.specs.Alias.{piece}
use Rattle.walk_model.specs.Factor.{factor, node_factor, return_factor, common_factor, far_factor}
use Rattle.walk_model.specs.Dart.{Board, area, main_area, taken_at, edge_at, hit, scanned, board_of}
use Rattle.walk_model.specs.Letters.{Journey, Asker, asker, in_zone, needed_at}
use Rattle.traveller.specs.PartedRuns.{PartedRun, journey_from}
use Rattle.traveller.specs.Turns.{row_at, board_at, asker_by, asker_at, edge_question, row_question, scan_mode, dart_mode, throws}
use Rattle.world_law.specs.PartRuns.{part_edges, HasRowsOf}
use Rattle.world_law.proofs.HearLemmas.{has_edge-row, IsAsker, asker_at-is}

-- a row is kept where its edges are
row-kept : (p : Edge → Bool) (es : List Edge) (v : ℕ) → ((e : Edge) → (e.src == v) ≡ true → p e ≡ true)
    → row (filter p es) v ≡ row es v
unfolding row
row-kept p [] v h = refl
row-kept p (e ∷ es) v h = by (e.src == v) (p e) refl refl (row-kept p es v h)
  where
    by : (b c : Bool) → (e.src == v) ≡ b → p e ≡ c → row (filter p es) v ≡ row es v
        → row (cond c (e ∷ filter p es) (filter p es)) v ≡ (if b then with_edge e (row es v) else row es v)
    by true true eb ec ih = rw (eb, ih) refl
    by false true eb ec ih = rw (eb, ih) refl
    by true false eb ec ih = absurd (false≢true (sym ec ∙ h e eb))
    by false false eb ec ih = ih

-- the edges from a part's vertices give their rows
pub part-rows : (g : PartedRun) (k : ℕ) → HasRowsOf g k (part_edges g k)
part-rows g k v own =
    row-kept (λ e. g.owner e.src == k) g.edges v
    (λ e h. (let same = eqb-true e.src v h in eq-eqb (g.owner e.src) k (ap g.owner same ∙ own)))

-- rows tell which edges there are
pub has_edge-rows : (es fs : List Edge) (t x : ℕ) → row es t ≡ row fs t → has_edge es t x ≡ has_edge fs t x
has_edge-rows es fs t x same =
    has_edge-row es t x ∙ ap (list_any (λ e. e.dst == x)) same ∙ sym (has_edge-row fs t x)

-- a height out of the zone lies under both factors or under none
zone-test : (c f h : ℕ) → (nat_le (min c f) h && nat_lt h (max c f)) ≡ false → nat_lt h c ≡ nat_lt h f
zone-test c f h e = grind (arith, nat_tests)

-- two factors that differ by the class of the edge's end alone pass the same test of a height out of the zone
class-test : (c f h : ℕ) (a b : Bool) → (nat_le (min c f) h && nat_lt h (max c f)) ≡ false
    → nat_lt h (cond a c f) ≡ nat_lt h (cond b c f)
class-test c f h true true e = refl
class-test c f h false false e = refl
class-test c f h true false e = zone-test c f h e
class-test c f h false true e = sym (zone-test c f h e)

and-true : (z : Bool) → (z && true) ≡ false → z ≡ false
and-true true e = e
and-true false e = refl

node-test : (a : Asker) (e1 e2 : List Edge) (t y h : ℕ) → (in_zone a h && not (y == t)) ≡ false
    → nat_lt h (node_factor e1 a.p a.q t y) ≡ nat_lt h (node_factor e2 a.p a.q t y)
unfolding node_factor in_zone
node-test a e1 e2 t y h out = by (y == t) refl out
  where
    by : (b : Bool) → (y == t) ≡ b
        → (nat_le (min (common_factor a.p a.q) (far_factor a.p a.q)) h && nat_lt h (max (common_factor a.p a.q) (far_factor a.p a.q)) && not b) ≡ false
        → nat_lt h (if y == t then return_factor a.p a.q else (if has_edge e1 t y then common_factor a.p a.q else far_factor a.p a.q))
        ≡ nat_lt h (if y == t then return_factor a.p a.q else (if has_edge e2 t y then common_factor a.p a.q else far_factor a.p a.q))
    by true e out = rw e refl
    by false e out =
        let zone = and-true (nat_le (min (common_factor a.p a.q) (far_factor a.p a.q)) h && nat_lt h (max (common_factor a.p a.q) (far_factor a.p a.q))) out in
        rw e (class-test (common_factor a.p a.q) (far_factor a.p a.q) h (has_edge e1 t y) (has_edge e2 t y) zone)

index-test : (a : Asker) (e1 e2 : List Edge) (t phase h : ℕ) (out : List Edge) (i : ℕ)
    → (in_zone a h && not (slice_index (ends_of out) i == t)) ≡ false
    → nat_lt h (slice_index (map (factor e1 (Node2vec a.p a.q) (Some t) phase) out) i)
    ≡ nat_lt h (slice_index (map (factor e2 (Node2vec a.p a.q) (Some t) phase) out) i)
unfolding factor ends_of
index-test a e1 e2 t phase h [] i z = refl
index-test a e1 e2 t phase h (e ∷ es) zero z = node-test a e1 e2 t e.dst h z
index-test a e1 e2 t phase h (e ∷ es) (suc i) z = index-test a e1 e2 t phase h es i z

-- a dart that needs no question passes the test of the zone
needed-out : (before end : ℕ) (m z n : Bool) → m ≡ true
    → option_map (question.Edge before) (if m && z && n then Some end else None) ≡ None → (z && n) ≡ false
needed-out before end true true true h e = absurd (cc)
needed-out before end true true false h e = refl
needed-out before end true false n h e = refl
needed-out before end false z n h e = absurd (false≢true h)

-- which heights out of the zone lie under the factors of two boards alike
abbrev pub TestsAlike : Asker → List ℕ → List ℕ → Type 0
TestsAlike a fs gs = (i h : ℕ) → (in_zone a h && not (slice_index a.ends i == a.before)) ≡ false
    → nat_lt h (slice_index fs i) ≡ nat_lt h (slice_index gs i)

edge_at-alike : (a : Asker) (b : Board) (fs : List ℕ) (x : ℕ) (main : Bool) → TestsAlike a fs b.factors
    → nat_lt x (main_area b) ≡ main
    → option_map (question.Edge a.before) (needed_at a b x) ≡ None
    → edge_at (record b { factors = fs }) x ≡ edge_at b x
unfolding edge_at taken_at needed_at
edge_at-alike a b fs x false tests m e = rw m refl
edge_at-alike a b fs x true tests m e =
    let i = piece b.weights (x / b.height) in
    let h = x % b.height in
    let out = needed-out a.before (slice_index a.ends i) (nat_lt x (main_area b)) (in_zone a h) (not (slice_index a.ends i == a.before)) m e in
    rw m (ap (λ c. if c then Some i else None) (tests i h out))

hit-alike : (a : Asker) (b : Board) (fs : List ℕ) (w : ℕ) → TestsAlike a fs b.factors
    → edge_question (Some a) b w ≡ None → hit (record b { factors = fs }) w ≡ hit b w
unfolding hit
hit-alike a b fs w tests e = by (fold_word (area b) w) e
  where
    by : (o : Option ℕ) → option_map (question.Edge a.before) (option_and_then (needed_at a b) o) ≡ None
        → option_and_then (edge_at (record b { factors = fs })) o ≡ option_and_then (edge_at b) o
    by None e = refl
    by (Some x) e = edge_at-alike a b fs x (nat_lt x (main_area b)) tests refl e

edge_question-alike : (r : Option Asker) (b : Board) (fs : List ℕ) (w : ℕ)
    → edge_question r (record b { factors = fs }) w ≡ edge_question r b w
unfolding needed_at
edge_question-alike None b fs w = refl
edge_question-alike (Some a) b fs w = refl

-- two boards are alike for a walker: but for what needs a question, darts and scans come to the same
pub record Alike (r : Option Asker) (b : Board) (fs : List ℕ) : Type 0 where
  pub hits : (w : ℕ) → edge_question r b w ≡ None → hit (record b { factors = fs }) w ≡ hit b w
  pub scans : row_question r ≡ None → fs ≡ b.factors

pub throws-alike : (left : ℕ) (r : Option Asker) (b : Board) (fs : List ℕ) (words : ℕ → ℕ) (place : ℕ) → Alike r b fs
    → throws left r (record b { factors = fs }) words place ≡ throws left r b words place
unfolding throws
throws-alike zero r b fs words place h = by (row_question r) refl
  where
    by : (o : Option Question) → row_question r ≡ o
        → scan_mode (row_question r) (scanned (record b { factors = fs }) words place) place ≡ scan_mode (row_question r) (scanned b words place) place
    by None e =
        let same = h.scans e in
        ap (λ x. scan_mode (row_question r) (scanned (record b { factors = x }) words place) place) same
    by (Some q) e = rw e refl
throws-alike (suc left) r b fs words place h =
    ap (λ o. dart_mode o (hit (record b { factors = fs }) (words place)) left place (throws left r (record b { factors = fs }) words (place + 1))) (edge_question-alike r b fs (words place))
    ∙ ap (λ m. dart_mode (edge_question r b (words place)) (hit (record b { factors = fs }) (words place)) left place m) (throws-alike left r b fs words (place + 1) h)
    ∙ by (edge_question r b (words place)) refl
  where
    by : (o : Option Question) → edge_question r b (words place) ≡ o
        → dart_mode (edge_question r b (words place)) (hit (record b { factors = fs }) (words place)) left place (throws left r b words (place + 1))
        ≡ dart_mode (edge_question r b (words place)) (hit b (words place)) left place (throws left r b words (place + 1))
    by None e = ap (λ x. dart_mode (edge_question r b (words place)) x left place (throws left r b words (place + 1))) (h.hits (words place) e)
    by (Some q) e = rw e refl

map-same : {X : Type 0} (f h : X → ℕ) (xs : List X) → ((x : X) → f x ≡ h x) → map f xs ≡ map h xs
map-same f h [] e = refl
map-same f h (x ∷ xs) e = rw (e x, map-same f h xs e) refl

-- the factors of a walker that need not ask are those of the graph
factors-owned : (g : PartedRun) (k : ℕ) (known : List Edge) (rows : HasRowsOf g k known) (j : Journey) (s : State) (rule : Rule) (previous : Option ℕ) (phase : ℕ) (out : List Edge)
    → j.owner ≡ g.owner → g.owner s.at ≡ k → asker_by j s rule previous ≡ None
    → map (factor known rule previous phase) out ≡ map (factor g.edges rule previous phase) out
unfolding factor node_factor
factors-owned g k known rows j s Plain previous phase out o at e = map-same _ _ out (λ x. refl)
factors-owned g k known rows j s (Scheme kinds) previous phase out o at e = map-same _ _ out (λ x. refl)
factors-owned g k known rows j s (Node2vec p q) None phase out o at e = map-same _ _ out (λ x. refl)
factors-owned g k known rows j s (Node2vec p q) (Some t) phase out o at e = by (j.owner t == j.owner s.at) refl e
  where
    by : (b : Bool) → (j.owner t == j.owner s.at) ≡ b → (if b then None else Some (asker j s t p q)) ≡ None
        → map (factor known (Node2vec p q) (Some t) phase) out ≡ map (factor g.edges (Node2vec p q) (Some t) phase) out
    by true h e =
        let same = eqb-true (j.owner t) (j.owner s.at) h in
        let own : g.owner t ≡ k = ap (λ f. f t) (sym o) ∙ same ∙ ap (λ f. f s.at) o ∙ at in
        map-same _ _ out
        (λ x. ap (λ b. if x.dst == t then return_factor p q else (if b then common_factor p q else far_factor p q)) (has_edge-rows known g.edges t x.dst (rows t own)))
    by false h e = absurd (none-some (asker j s t p q) (sym e))

tests-asked : (j : Journey) (s : State) (r : Rule) (before : Option ℕ) (phase : ℕ) (a : Asker) (e1 e2 : List Edge) → IsAsker j s r before a
    → TestsAlike a (map (factor e1 r before phase) (row_at j s)) (map (factor e2 r before phase) (row_at j s))
tests-asked j s r before phase a e1 e2 is =
    rw (is.rule, is.previous, is.same)
    (λ i h z. index-test (asker j s is.t is.p is.q) e1 e2 is.t phase h (row_at j s) i z)

node-same : (a : Asker) (e1 e2 : List Edge) (t y : ℕ) → common_factor a.p a.q ≡ far_factor a.p a.q
    → node_factor e1 a.p a.q t y ≡ node_factor e2 a.p a.q t y
unfolding node_factor
node-same a e1 e2 t y e = by (y == t) (has_edge e1 t y) (has_edge e2 t y)
  where
    by : (b c d : Bool) → (if b then return_factor a.p a.q else (if c then common_factor a.p a.q else far_factor a.p a.q))
        ≡ (if b then return_factor a.p a.q else (if d then common_factor a.p a.q else far_factor a.p a.q))
    by true c d = refl
    by false true true = refl
    by false false false = refl
    by false true false = e
    by false false true = sym e

scans-asked : (j : Journey) (s : State) (r : Rule) (before : Option ℕ) (phase : ℕ) (a : Asker) (e1 e2 : List Edge) → IsAsker j s r before a
    → common_factor a.p a.q ≡ far_factor a.p a.q
    → map (factor e1 r before phase) (row_at j s) ≡ map (factor e2 r before phase) (row_at j s)
unfolding factor
scans-asked j s r before phase a e1 e2 is e =
    let same = is.same in
    let equal = rw same at e in
    rw (is.rule, is.previous)
    (map-same _ _ (row_at j s) (λ x. node-same (asker j s is.t is.p is.q) e1 e2 is.t x.dst equal))

row_question-none : (a : Asker) → row_question (Some a) ≡ None → common_factor a.p a.q ≡ far_factor a.p a.q
row_question-none a e = by (common_factor a.p a.q == far_factor a.p a.q) refl e
  where
    by : (b : Bool) → (common_factor a.p a.q == far_factor a.p a.q) ≡ b → (if b then None else Some (question.Row a.before)) ≡ None
        → common_factor a.p a.q ≡ far_factor a.p a.q
    by true h e = eqb-true (common_factor a.p a.q) (far_factor a.p a.q) h
    by false h e = absurd (none-some (question.Row a.before) (sym e))

-- the factors as the part knows them
abbrev pub part_factors : PartedRun → List Edge → State → List ℕ
part_factors g known s = map (factor known g.plan.rule s.previous s.phase) (row g.edges s.at)

whole-factors : (g : PartedRun) (n start : ℕ) (s : State)
    → (board_at (journey_from g n start) s).factors ≡ map (factor g.edges g.plan.rule s.previous s.phase) (row g.edges s.at)
unfolding board_of
whole-factors g n start s = refl

pub alike-part : (g : PartedRun) (k : ℕ) (known : List Edge) (rows : HasRowsOf g k known) (n start : ℕ) (s : State) → g.owner s.at ≡ k
    → Alike (asker_at (journey_from g n start) s) (board_at (journey_from g n start) s) (part_factors g known s)
alike-part g k known rows n start s at = by (asker_at (journey_from g n start) s) refl
  where
    by : (r : Option Asker) → asker_at (journey_from g n start) s ≡ r
        → Alike (asker_at (journey_from g n start) s) (board_at (journey_from g n start) s) (part_factors g known s)
    by None e =
        let j = journey_from g n start in
        let same = factors-owned g k known rows j s g.plan.rule s.previous s.phase (row g.edges s.at) refl at e ∙ sym (whole-factors g n start s) in
        record {
          hits = λ w none. ap (λ fs. hit (record (board_at j s) { factors = fs }) w) same;
          scans = λ none. same;
        }
    by (Some a) e =
        let j = journey_from g n start in
        let is = asker_at-is j s a e in
        let factors = whole-factors g n start s in
        let tests : TestsAlike a (part_factors g known s) (board_at j s).factors =
        subst (TestsAlike a (part_factors g known s)) (sym factors) (tests-asked j s g.plan.rule s.previous s.phase a known g.edges is) in
        record {
          hits = λ w none. hit-alike a (board_at j s) (part_factors g known s) w tests (rw e at none);
          scans = λ none.
              scans-asked j s g.plan.rule s.previous s.phase a known g.edges is (row_question-none a (rw e at none)) ∙ sym factors;
        }
