-- How columns are filled, one after another.
use Rattle.std.proofs.Common.{◌≡◌, ℕ, suc, ◌+◌, ◌-◌, ◌*◌, ◌<◌, ◌≤◌, List, length, take, get_or, set, replicate, sum, refl, arith, ap, sym, ◌∙◌, inl, inr, ◌⊎◌, get_or-set_other, get_or-set_same, length-set}
use Rattle.walk_model.proofs.ColumnLemmas.{times_item-le}
use Rattle.std.proofs.lemmas.Bool.{cases_lt, cases_eq}
use Rattle.std.proofs.lemmas.List.{get_or-replicate, length-replicate}
use Rattle.walk_model.specs.Lists.{first_above, front_reaching}
use Rattle.walk_model.specs.Alias.{lacks, spares}
use Rattle.alias_table.specs.Filled.{IsColumn, IsRight, Filled, AllFilled}
use Rattle.alias_table.specs.declared.columns.Column.{Column}
use Rattle.alias_table.proofs.SumLemmas.{sum-lacks, lack_at, spare_at, length-lacks, length-spares, front-more, front-le, front-all, front-flat}
use Rattle.alias_table.proofs.FrontLemmas.{first_above-here, first_above-end, front_reaching-at_most, front_reaching-above, front_reaching-le, own-light, own-heavy, filler-light, filler-heavy}

-- the column of a light item, filled up by the heavy item whose turn it is
pub light-column : (ws : List ℕ) (light heavy : ℕ) → light < length ws → heavy < length ws
    → length ws * get_or ws light 0 ≤ sum ws
    → sum (take heavy (spares ws)) ≤ sum (take light (lacks ws))
    → sum (take light (lacks ws)) < sum (take (suc heavy) (spares ws))
    → IsColumn ws light (length ws * get_or ws light 0) heavy
light-column ws light heavy in_row within small behind ahead = record {
  part_is = sym (own-light ws light small);
  other_is = λ _. sym (filler-light ws light small
      ∙ first_above-here (sum (take light (lacks ws))) (spares ws) heavy (omega (arith, length-spares ws)) behind ahead);
}

-- the column of a heavy item, closed with what the light items lack beyond what was spare
pub heavy-column : (ws : List ℕ) (heavy light debt next : ℕ) → heavy < length ws → sum ws < length ws * get_or ws heavy 0
    → light ≡ front_reaching (sum (take (suc heavy) (spares ws))) (lacks ws)
    → sum (take light (lacks ws)) ≡ sum (take (suc heavy) (spares ws)) + debt
    → suc heavy ≤ next → next ≤ length ws
    → (next < length ws → 0 < get_or (spares ws) next 0)
    → ((k : ℕ) → suc heavy ≤ k → k < next → get_or (spares ws) k 0 ≡ 0)
    → IsColumn ws heavy (sum ws - debt) next
heavy-column ws heavy light debt next in_row great reached balance onward within some none = record {
  part_is =
      let mine = own-heavy ws heavy great in
      let same : sum (take (front_reaching (sum (take (suc heavy) (spares ws))) (lacks ws)) (lacks ws)) ≡ sum (take light (lacks ws)) =
      ap (λ n. sum (take n (lacks ws))) (sym reached) in
      omega (arith, mine, same, balance);
  other_is = λ _.
      let flat : sum (take (suc heavy) (spares ws)) ≡ sum (take next (spares ws)) =
      front-flat (spares ws) (suc heavy) next onward (omega (arith, length-spares ws)) none in
      sym (filler-heavy ws heavy great ∙ last_or_next flat (cases_lt next (length ws)));
}
  where
    last_or_next : sum (take (suc heavy) (spares ws)) ≡ sum (take next (spares ws)) → (next < length ws) ⊎ (length ws ≤ next)
        → first_above (sum (take (suc heavy) (spares ws))) (spares ws) ≡ next
    last_or_next flat (inl l) =
        let more = front-more (spares ws) next (omega (arith, length-spares ws)) in
        first_above-here _ _ next (omega (arith, length-spares ws)) (omega (arith, flat)) (omega (arith, flat, more, some l))
    last_or_next flat (inr l) =
        let all = front-all (spares ws) next (omega (arith, length-spares ws)) in
        first_above-end _ _ (omega (arith, flat, all)) ∙ omega (arith, length-spares ws)

-- a column with given parts
pub column-is : {N : Type 0} (column : Column N) (own : N) (other : ℕ) → column.own ≡ own → column.other ≡ other
    → column ≡ record { own = own; other = other }
column-is column own other mine yours = rw (← mine, ← yours) refl

-- a right column written makes its place right and leaves the others so
right-write : {C : Type 0} (part other : C → ℕ) (ws : List ℕ) (columns : List C) (p : ℕ) (v : C)
    → p < length columns → IsColumn ws p (part v) (other v)
    → (c : ℕ) → ((c ≡ p → ⊥) → IsRight part other ws columns c) → IsRight part other ws (set columns p v) c
right-write part other ws columns p v in_row new c old d =
    elim (cases_eq c p) [
      | inl same ↦ rw same (rw (get_or-set_same columns p v d in_row) new)
      | inr apart ↦ rw (get_or-set_other columns p c v d apart) (old apart d)
    ]

-- an item's lack and spare, by its weight
pub light-lack : (ws : List ℕ) (c : ℕ) → c < length ws → length ws * get_or ws c 0 < sum ws → 0 < get_or (lacks ws) c 0
light-lack ws c h l = omega (arith, lack_at ws c h)

pub lack-light : (ws : List ℕ) (c : ℕ) → c < length ws → 0 < get_or (lacks ws) c 0 → length ws * get_or ws c 0 < sum ws
lack-light ws c h l = omega (arith, lack_at ws c h)

pub spare-heavy : (ws : List ℕ) (c : ℕ) → c < length ws → 0 < get_or (spares ws) c 0 → sum ws < length ws * get_or ws c 0
spare-heavy ws c h l = omega (arith, spare_at ws c h)

-- a light item's column is written
pub filled-light : {C : Type 0} (part other : C → ℕ) (ws : List ℕ) (light heavy next : ℕ) (columns : List C) (v : C)
    → next ≡ suc light → Filled part other ws light heavy columns
    → light < length ws → heavy < length ws → length ws * get_or ws light 0 < sum ws
    → sum (take heavy (spares ws)) ≤ sum (take light (lacks ws))
    → sum (take light (lacks ws)) < sum (take (suc heavy) (spares ws))
    → part v ≡ length ws * get_or ws light 0 → other v ≡ heavy
    → Filled part other ws next heavy (set columns light v)
filled-light part other ws light heavy next columns v e filled in_row within small behind ahead mine yours =
    let room : light < length columns = omega (arith, filled.long) in
    let new : IsColumn ws light (part v) (other v) =
    rw (mine, yours) (light-column ws light heavy in_row within (omega arith) behind ahead) in
    record {
      long = length-set columns light v ∙ filled.long;
      lights = λ c below lacking. right-write part other ws columns light v room new c (λ apart. filled.lights c (omega arith) lacking);
      heavies = λ c below sparing. right-write part other ws columns light v room new c (λ apart. filled.heavies c below sparing);
      others = λ c inside no_lack no_spare. right-write part other ws columns light v room new c (λ apart. filled.others c inside no_lack no_spare);
    }

-- an item that lacks nothing is passed
pub filled-pass : {C : Type 0} (part other : C → ℕ) (ws : List ℕ) (light heavy next : ℕ) (columns : List C)
    → next ≡ suc light → Filled part other ws light heavy columns
    → light < length ws → sum ws ≤ length ws * get_or ws light 0
    → Filled part other ws next heavy columns
filled-pass part other ws light heavy next columns e filled in_row great = record {
  long = filled.long;
  lights = λ c below lacking. elim (cases_eq c light) [
    | inl same ↦ let none : 0 < get_or (lacks ws) light 0 = rw same at lacking in absurd (omega (arith, none, lack_at ws light in_row))
    | inr apart ↦ filled.lights c (omega arith) lacking
  ];
  heavies = filled.heavies;
  others = filled.others;
}

-- a heavy item's column is written, and its followers that have nothing to spare are passed
pub filled-heavy : {C : Type 0} (part other : C → ℕ) (ws : List ℕ) (light heavy next : ℕ) (columns : List C) (v : C)
    → Filled part other ws light heavy columns → heavy < length ws
    → IsColumn ws heavy (part v) (other v)
    → ((k : ℕ) → suc heavy ≤ k → k < next → get_or (spares ws) k 0 ≡ 0)
    → Filled part other ws light next (set columns heavy v)
filled-heavy part other ws light heavy next columns v filled in_row new none =
    let room : heavy < length columns = omega (arith, filled.long) in
    record {
      long = length-set columns heavy v ∙ filled.long;
      lights = λ c below lacking. right-write part other ws columns heavy v room new c (λ apart. filled.lights c below lacking);
      heavies = λ c below sparing. right-write part other ws columns heavy v room new c (λ apart. elim (cases_lt c heavy) [
        | inl before ↦ filled.heavies c before sparing
        | inr after ↦ absurd (omega (arith, none c (omega arith) below, sparing))
      ]);
      others = λ c inside no_lack no_spare. right-write part other ws columns heavy v room new c (λ apart. filled.others c inside no_lack no_spare);
    }

-- columns that are all whole
pub filled-none : {C : Type 0} (part other : C → ℕ) (ws : List ℕ) (first : ℕ) (columns : List C)
    → length columns ≡ length ws → ((c : ℕ) (d : C) → c < length ws → part (get_or columns c d) ≡ sum ws)
    → ((k : ℕ) → k < first → get_or (spares ws) k 0 ≡ 0)
    → Filled part other ws 0 first columns
filled-none part other ws first columns long whole none = record {
  long = long;
  lights = λ c below lacking. absurd (omega arith);
  heavies = λ c below sparing. absurd (omega (arith, none c below, sparing));
  others = λ c inside no_lack no_spare d. record {
    part_is =
        let equal : length ws * get_or ws c 0 ≡ sum ws = omega (arith, lack_at ws c inside, spare_at ws c inside, no_lack, no_spare) in
        whole c d inside ∙ sym (own-light ws c (omega arith) ∙ equal);
    other_is = λ room. absurd (omega (arith, whole c d inside, room));
  };
}

pub filled-whole : {C : Type 0} (part other : C → ℕ) (ws : List ℕ) (column : C) → part column ≡ sum ws
    → Filled part other ws 0 0 (replicate (length ws) column)
filled-whole part other ws column whole =
    filled-none part other ws 0 (replicate (length ws) column) (length-replicate (length ws) column)
    (λ c d inside. rw (get_or-replicate (length ws) c column d inside) whole)
    (λ k below. absurd (omega arith))

-- once the heavy items are through, the light items are
pub filled-all : {C : Type 0} (part other : C → ℕ) (ws : List ℕ) (light heavy debt : ℕ) (columns : List C)
    → Filled part other ws light heavy columns → length ws ≤ heavy
    → sum (take light (lacks ws)) ≡ sum (take heavy (spares ws)) + debt
    → AllFilled part other ws columns
filled-all part other ws light heavy debt columns filled through balance = record {
  long = filled.long;
  right = λ c inside. elim (cases_lt 0 (get_or (lacks ws) c 0)) [
    | inl lacking ↦ filled.lights c (reached c inside lacking) lacking
    | inr no_lack ↦ elim (cases_lt 0 (get_or (spares ws) c 0)) [
      | inl sparing ↦ filled.heavies c (omega arith) sparing
      | inr no_spare ↦ filled.others c inside (omega arith) (omega arith)
    ]
  ];
}
  where
    reached : (c : ℕ) → c < length ws → 0 < get_or (lacks ws) c 0 → c < light
    reached c inside lacking =
        let all : sum (take heavy (spares ws)) ≡ sum (spares ws) = front-all (spares ws) heavy (omega (arith, length-spares ws)) in
        let more = front-more (lacks ws) c (omega (arith, length-lacks ws)) in
        let rest = front-le (lacks ws) (suc c) (length ws) (omega arith) in
        let every = front-all (lacks ws) (length ws) (omega (arith, length-lacks ws)) in
        elim (cases_lt c light) [
          | inl before ↦ before
          | inr after ↦ absurd (omega (arith, all, more, rest, every, balance, sum-lacks ws, lacking, front-le (lacks ws) light c after))
        ]

-- where a light item uses up what is spare, it is the last that is reached
pub reached-here : (ws : List ℕ) (z light next : ℕ) → next ≡ suc light → light < length ws
    → sum (take light (lacks ws)) < z → z ≤ sum (take (suc light) (lacks ws))
    → next ≡ front_reaching z (lacks ws)
reached-here ws z light next e in_row before after =
    omega (
      arith,
      front_reaching-above z (lacks ws) light before (omega (arith, length-lacks ws)),
      front_reaching-at_most z (lacks ws) (suc light) after (omega (arith, length-lacks ws)),
    )

-- where nothing more is needed, the place stays
pub reached-still : (ws : List ℕ) (y z light : ℕ) → light ≤ length ws → y ≤ z → light ≡ front_reaching y (lacks ws)
    → z ≤ sum (take light (lacks ws)) → light ≡ front_reaching z (lacks ws)
reached-still ws y z light in_row more reached enough =
    omega (
      arith,
      reached,
      front_reaching-le y z (lacks ws) more,
      front_reaching-at_most z (lacks ws) light enough (omega (arith, length-lacks ws)),
    )

-- a stretch with nothing to spare leaves the sum of the front as it is
pub spare-flat : (ws : List ℕ) (from next : ℕ) → from ≤ next → next ≤ length ws
    → ((k : ℕ) → from ≤ k → k < next → get_or (spares ws) k 0 ≡ 0)
    → sum (take from (spares ws)) ≡ sum (take next (spares ws))
spare-flat ws from next onward within none =
    front-flat (spares ws) from next onward (omega (arith, length-spares ws)) none

-- a heavy item is closed
pub filled-closed : {C : Type 0} (part other : C → ℕ) (ws : List ℕ) (light heavy debt next : ℕ) (columns : List C) (v : C)
    → Filled part other ws light heavy columns → heavy < length ws → 0 < get_or (spares ws) heavy 0
    → light ≡ front_reaching (sum (take (suc heavy) (spares ws))) (lacks ws)
    → sum (take light (lacks ws)) ≡ sum (take (suc heavy) (spares ws)) + debt
    → suc heavy ≤ next → next ≤ length ws
    → (next < length ws → 0 < get_or (spares ws) next 0)
    → ((k : ℕ) → suc heavy ≤ k → k < next → get_or (spares ws) k 0 ≡ 0)
    → part v ≡ sum ws - debt → other v ≡ next
    → Filled part other ws light next (set columns heavy v)
filled-closed part other ws light heavy debt next columns v filled in_row sparing reached balance onward within some none mine yours =
    filled-heavy part other ws light heavy next columns v filled in_row
    (rw (mine, yours) (heavy-column ws heavy light debt next in_row (spare-heavy ws heavy in_row sparing) reached balance onward within some none))
    none

-- before the first heavy item nothing is needed
pub filled-first : {C : Type 0} (part other : C → ℕ) (ws : List ℕ) (first : ℕ) (columns : List C)
    → Filled part other ws 0 0 columns → ((k : ℕ) → 0 ≤ k → k < first → get_or (spares ws) k 0 ≡ 0)
    → Filled part other ws 0 first columns
filled-first part other ws first columns filled none = record {
  long = filled.long;
  lights = filled.lights;
  heavies = λ c below sparing. absurd (omega (arith, none c (omega arith) below, sparing));
  others = filled.others;
}

-- products of the number of weights and a weight
pub product-fits : (count : ℕ) (ws : List ℕ) (i bound : ℕ) → count ≡ length ws → i < length ws → length ws * sum ws < bound
    → count * get_or ws i 0 < bound
product-fits count ws i bound e h fits =
    rw e (omega (arith, times_item-le (length ws) (length ws * sum ws) ws i 0 h (omega arith)))

pub ruleset fill_lemmas = (product-fits)
