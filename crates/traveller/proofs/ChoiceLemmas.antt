-- Rows that a rule chooses from: the board of the classes is the board of the rule.
use Rattle.std.proofs.Common.{◌≡◌, ℕ, ◌*◌, ◌^◌, ◌<◌, ◌≤◌, ◌⊎◌, inl, inr, Bool, true, List, [], ◌∷◌, length, map, replicate, sum, Some, None, refl, ap, sym, subst, ◌∙◌, arith, Bor}
use Rattle.std.specs.Prelude.{Option}
use Rattle.std.specs.List.Sorted.{IsNonDecreasing}
use Rattle.std.proofs.lemmas.Bool.Decides.{nat_tests}
use Rattle.std.proofs.Math.Nat.{one-le-mul, mul-le-mul_left}
use Rattle.std.proofs.lemmas.List.{length-map, length-replicate, get_or-replicate}
use Rattle.walk_model.specs.declared.graph.Edge.{Edge}
use Rattle.walk_model.specs.declared.programme.Fraction.{Fraction}
use Rattle.walk_model.specs.declared.programme.Rule.{Rule}
use Rattle.walk_model.specs.declared.programme.Rule.TheVariants.{Plain, Scheme, Node2vec}
use Rattle.walk_model.specs.declared.states.State.{State}
use Rattle.walk_model.specs.Settings.{Settings}
use Rattle.walk_model.specs.Graph.{row, weights_of, ends_of}
use Rattle.walk_model.specs.Factor.{greatest_factor, common_factor, wanted_kind}
use Rattle.walk_model.specs.Dart.{darts, board_of}
use Rattle.csr_store.specs.declared.out_edge.OutEdge.{OutEdge}
use Rattle.walk_model.proofs.BoardLemmas.{length-weights_of}
use Rattle.csr_store.proofs.EndLemmas.{length-ends_of}
use Rattle.csr_store.proofs.SearchLemmas.{row-rises}
use Rattle.csr_store.specs.OutEdges.{out_edge, kinds_of}
use Rattle.factor_table.specs.KnownClasses.{all_zero}
use Rattle.factor_table.proofs.OneClassLaws.{known-zero, darts-plain, darts-first}
use Rattle.dart_envelope.specs.ClassBoards.{class_board, board_by, MayHave}
use Rattle.metapath_walk.specs.TypeClasses.{classes_of_types, known_of_types, type_class, type_classes, known_class}
use Rattle.metapath_walk.proofs.SchemeLaws as scheme
use Rattle.node2vec_walk.specs.Destinations.{classes_to, known_of, strip_run, rises, is_among}
use Rattle.node2vec_walk.specs.Nearness.{class_to, known_to, class_factors}
use Rattle.node2vec_walk.proofs.NodeLaws as node
use Rattle.node2vec_walk.proofs.DestinationLaws as near
use Rattle.traveller.specs.Choices.{IsChoice}
use Rattle.traveller.specs.RuleFactors.{AreTyped}
use Rattle.traveller.specs.declared.ruling.TypedFactors.{TypedFactors}
use Rattle.traveller.specs.declared.ruling.TypedFactors.TheVariants as typed

-- one class may be chosen from
pub choice-one : (ws : List ℕ) (count : ℕ) → count ≡ length ws → length ws * sum ws ≤ 2 ^ 62
    → IsChoice 1 ws (1 ∷ []) (all_zero count) (replicate count 0) None
choice-one ws count long fits = record {
  sized = refl;
  long = length-replicate count (Some 0) ∙ long;
  classed = λ edge low.
      (let there : edge < count = (let e = length-replicate {A = Option ℕ} count (Some 0) in omega (arith, low, e)) in
      rw (known-zero count edge there) (omega arith));
  fits = omega (arith, fits);
  run = tt;
  suits = record {
    long = length-replicate count 0 ∙ long;
    below = λ edge low. rw (get_or-replicate {A = ℕ} count edge 0 0 (rw long low)) (omega arith);
    may = λ edge low. rw (known-zero count edge (rw long low)) (get_or-replicate {A = ℕ} count edge 0 0 (rw long low));
  };
}

-- the row of a plan without a factor fits
pub fits-one : (ws : List ℕ) (rule : Rule) → length ws * sum ws * greatest_factor rule ≤ 2 ^ 62 → 1 ≤ greatest_factor rule
    → length ws * sum ws ≤ 2 ^ 62
fits-one ws rule fits some =
    let more : length ws * sum ws * 1 ≤ length ws * sum ws * greatest_factor rule = mul-le-mul_left (length ws * sum ws) some in
    omega (arith, fits, more)

pub greatest-plain : 1 ≤ greatest_factor Plain
unfolding greatest_factor
greatest-plain = omega arith

pub greatest-scheme : (kinds : List ℕ) → 1 ≤ greatest_factor (Scheme kinds)
unfolding greatest_factor
greatest-scheme kinds = omega arith

pub greatest-near : (p q : Fraction) → 1 ≤ p.top → 1 ≤ q.top → 1 ≤ greatest_factor (Node2vec p q)
unfolding greatest_factor
greatest-near p q hp hq =
    let some : 1 ≤ common_factor p q = one-le-mul hp hq in
    omega (arith, some)

-- the two classes of a scheme may be chosen from
choice-types : (ws : List ℕ) (wanted : ℕ) (out : List OutEdge) → length out ≡ length ws → length ws * sum ws ≤ 2 ^ 62
    → IsChoice 2 ws (1 ∷ 0 ∷ []) (map (known_class wanted) out) (type_classes wanted out) None
choice-types ws wanted out long fits = record {
  sized = refl;
  long = length-map out (known_class wanted) ∙ long;
  classed = λ edge low. scheme.known-below wanted edge out;
  fits = omega (arith, fits);
  run = tt;
  suits = record {
    long = length-map out (type_class wanted) ∙ long;
    below = λ edge low. scheme.type_classes-below wanted out edge 0 (let e = length-map out (type_class wanted) in omega (arith, low, e, long));
    may = λ edge low. rw (scheme.class-known wanted edge out (rw long low)) refl;
  };
}

-- by the types of a row's edges
pub choice-scheme : (ws : List ℕ) (wanted : ℕ) (kinds : List ℕ) (out : List Edge) → kinds ≡ kinds_of out → length out ≡ length ws
    → length ws * sum ws ≤ 2 ^ 62
    → IsChoice 2 ws (1 ∷ 0 ∷ []) (known_of_types wanted kinds) (classes_of_types wanted kinds) None
choice-scheme ws wanted kinds out are long fits =
    rw (are, scheme.types-known wanted out, scheme.types-classes wanted out)
    (choice-types ws wanted (map out_edge out) (length-map out out_edge ∙ long) fits)

may-have : (known : Option ℕ) (class : ℕ) → (known ≡ Some class) ⊎ ((known ≡ None) × (1 ≤ class)) → MayHave known 1 class
may-have known class way =
    elim way as (λ _. MayHave known 1 class) [
      | inl is ↦ subst (λ (k : Option ℕ). MayHave k 1 class) (sym is) refl
      | inr both ↦ subst (λ (k : Option ℕ). MayHave k 1 class) (sym both.0) both.1
    ]

-- the three classes of node2vec may be chosen from, by the destinations of the row and of the one before
pub choice-near : (ws : List ℕ) (p q : Fraction) (t : ℕ) (dsts before : List ℕ) (run : ℕ × ℕ) → IsNonDecreasing dsts
    → length dsts ≡ length ws → length ws * sum ws * greatest_factor (Node2vec p q) ≤ 2 ^ 62 → 1 ≤ p.top → 1 ≤ q.top
    → run ≡ strip_run (class_factors p q) dsts t → run.0 ≤ run.1 → run.1 ≤ length dsts
    → IsChoice 3 ws (class_factors p q) (known_of t dsts) (classes_to before t dsts) (Some run)
choice-near ws p q t dsts before run up long fits hp hq is order within = record {
  sized = refl;
  long = length-map dsts (λ x. known_to x t) ∙ long;
  classed = λ edge low. near.known-first t dsts edge;
  fits = rw ((node.class_factors-are p q).greatest) fits;
  run = record {
    classes = omega arith;
    order = order;
    within = (let e = length-map dsts (λ x. known_to x t) in omega (arith, e, within));
    edges = λ rise edge low.
        (let risen : rises (class_factors p q) ≡ true = grind (arith, nat_tests) in
        rw is (near.known-in_strip (class_factors p q) t dsts up risen edge low));
    other = node.others-some p q hp hq;
  };
  suits = record {
    long = length-map dsts (λ x. class_to x t (is_among before x)) ∙ long;
    below = λ edge low. near.classes-below before t dsts edge (rw long low);
    may = λ edge low. may-have _ _ (near.classes-known before t dsts edge (rw long low));
  };
}

-- a choice from one class is one without a rule
pub one-plain : (n count : ℕ) (edges : List Edge) (plan : Settings) (s : State) (out : List Edge) (ws : List ℕ) (words : ℕ → ℕ) (place : ℕ)
    → plan.rule ≡ Plain → weights_of plan.weighted out ≡ ws → count ≡ length out
    → darts n (board_by (class_board ws (1 ∷ []) (all_zero count) None) (replicate count 0)) words place
    ≡ darts n (board_of edges plan s out) words place
one-plain n count edges plan s out ws words place rule weights long =
    rw (← weights, long) (sym (darts-plain n edges plan s out words place rule))

-- and one under node2vec where there is no vertex before
pub one-first : (n count : ℕ) (edges : List Edge) (plan : Settings) (s : State) (p q : Fraction) (out : List Edge) (ws : List ℕ) (words : ℕ → ℕ) (place : ℕ)
    → plan.rule ≡ Node2vec p q → s.previous ≡ None → weights_of plan.weighted out ≡ ws → count ≡ length out
    → darts n (board_by (class_board ws (1 ∷ []) (all_zero count) None) (replicate count 0)) words place
    ≡ darts n (board_of edges plan s out) words place
one-first n count edges plan s p q out ws words place rule first weights long =
    rw (← weights, long) (sym (darts-first n edges plan s p q out words place rule first))

-- a choice from two classes is one by a scheme
pub two-scheme : (n : ℕ) (edges : List Edge) (plan : Settings) (s : State) (types : List ℕ) (wanted : ℕ) (kinds : List ℕ) (out : List Edge) (ws : List ℕ) (words : ℕ → ℕ) (place : ℕ)
    → plan.rule ≡ Scheme types → wanted ≡ wanted_kind types s.phase → weights_of plan.weighted out ≡ ws → kinds ≡ kinds_of out
    → darts n (board_by (class_board ws (1 ∷ 0 ∷ []) (known_of_types wanted kinds) None) (classes_of_types wanted kinds)) words place
    ≡ darts n (board_of edges plan s out) words place
two-scheme n edges plan s types wanted kinds out ws words place rule type weights are =
    rw (← weights, are, scheme.types-classes wanted out, type) (sym (scheme.darts-scheme n edges plan s types out words place rule))

-- a choice from three classes is one under node2vec
pub three-near : (n : ℕ) (edges : List Edge) (plan : Settings) (s : State) (p q : Fraction) (t : ℕ) (dsts before : List ℕ) (run : ℕ × ℕ) (out : List Edge) (ws : List ℕ) (words : ℕ → ℕ) (place : ℕ)
    → plan.rule ≡ Node2vec p q → s.previous ≡ Some t → weights_of plan.weighted out ≡ ws
    → dsts ≡ ends_of out → before ≡ ends_of (row edges t) → run ≡ strip_run (class_factors p q) dsts t
    → darts n (board_by (class_board ws (class_factors p q) (known_of t dsts) (Some run)) (classes_to before t dsts)) words place
    ≡ darts n (board_of edges plan s out) words place
three-near n edges plan s p q t dsts before run out ws words place rule previous weights dsts_are before_are is =
    rw (is, dsts_are, before_are, ← weights) (near.darts-after n edges plan s p q t out words place rule previous)

-- the rule of each kind of factors
pub plain-rule : (r : Rule) (t : TypedFactors) → t ≡ typed.Plain → AreTyped r t → r ≡ Plain
plain-rule r t is factors = here r (subst (AreTyped r) is factors)
  where
    here : (r : Rule) → AreTyped r typed.Plain → r ≡ Plain
    here Plain h = refl
    here (Scheme kinds) h = absurd h
    here (Node2vec p q) h = absurd h

pub scheme-rule : (r : Rule) (t : TypedFactors) (kinds : Bor (List ℕ)) (fs : List ℕ) → t ≡ typed.Scheme kinds fs → AreTyped r t
    → (r ≡ Scheme kinds.now) × (fs ≡ 1 ∷ 0 ∷ [])
scheme-rule r t kinds fs is factors = here r (subst (AreTyped r) is factors)
  where
    here : (r : Rule) → AreTyped r (typed.Scheme kinds fs) → (r ≡ Scheme kinds.now) × (fs ≡ 1 ∷ 0 ∷ [])
    here Plain h = absurd h
    here (Scheme types) h = (ap Scheme (sym h.0), h.1)
    here (Node2vec p q) h = absurd h

-- a rule with two fractions that are above 0
pub record IsNear (r : Rule) (fs : List ℕ) : Type 0 where
  pub p : Fraction
  pub q : Fraction
  pub rule : r ≡ Node2vec p q
  pub factors : fs ≡ class_factors p q
  pub above_p : 1 ≤ p.top
  pub above_q : 1 ≤ q.top

pub near-rule : (r : Rule) (t : TypedFactors) (fs : List ℕ) → t ≡ typed.Node2vec fs → AreTyped r t → IsNear r fs
near-rule r t fs is factors = here r (subst (AreTyped r) is factors)
  where
    here : (r : Rule) → AreTyped r (typed.Node2vec fs) → IsNear r fs
    here Plain h = absurd h
    here (Scheme types) h = absurd h
    here (Node2vec p q) h = record { p = p; q = q; rule = refl; factors = h.0; above_p = h.1; above_q = h.2 }

-- a row has as many destinations as weights
pub long-dsts : (weighted : Bool) (out : List Edge) (ws dsts : List ℕ) → weights_of weighted out ≡ ws → dsts ≡ ends_of out
    → length dsts ≡ length ws
long-dsts weighted out ws dsts weights are =
    ap (λ (l : List ℕ). length l) are ∙ length-ends_of out ∙ sym (length-weights_of weighted out) ∙ ap (λ (l : List ℕ). length l) weights

-- the row of a vertex can be chosen from after a step from t, whichever vertices count as near
pub choice-after : (edges : List Edge) (plan : Settings) (v t : ℕ) (fs ws dsts near : List ℕ) (run : ℕ × ℕ) → IsNear plan.rule fs
    → weights_of plan.weighted (row edges v) ≡ ws → length ws * sum ws * greatest_factor plan.rule ≤ 2 ^ 62
    → dsts ≡ ends_of (row edges v) → run ≡ strip_run fs dsts t → run.0 ≤ run.1 → run.1 ≤ length dsts
    → IsChoice 3 ws fs (known_of t dsts) (classes_to near t dsts) (Some run)
choice-after edges plan v t fs ws dsts near run by weights fits are is order within =
    let bound : length ws * sum ws * greatest_factor (Node2vec by.p by.q) ≤ 2 ^ 62 = rw by.rule at fits in
    let up : IsNonDecreasing dsts = rw are (row-rises edges v) in
    rw by.factors
    (choice-near ws by.p by.q t dsts near run up (long-dsts plan.weighted (row edges v) ws dsts weights are) bound by.above_p by.above_q
    (rw by.factors at is) order within)
