-- How becoming is put together: one event, one thing after another, and beside what stays.
use Rattle.std.proofs.Common.{ℕ, List, [], ◌∷◌, ◌++◌, ◌∙◌, arith, subst}
use Rattle.std.proofs.lemmas.List.{append_assoc}
use Rattle.std.proofs.lemmas.List.Sums.{sum_by-append}
use Rattle.traveller.specs.PartedRuns.{PartedRun}
use Rattle.world_law.specs.Worlds.{Piece, Same}
use Rattle.world_law.specs.Events.{Event, May, taken_by, given_by, Leads, Becomes}
use Rattle.world_law.specs.Histories.{Happening, InPart, Unrolls}
use Rattle.world_law.specs.Soundness.{IsSound}
use Rattle.world_law.proofs.LeadLemmas.{sound-leads}

leads-left : (g : PartedRun) (k : ℕ) (es : List Event) (first before after : List Piece) → Same first before
    → Leads g k es before after → Leads g k es first after
unfolding Leads
leads-left g k [] first before after same l = λ h. same h ∙ l h
leads-left g k (e ∷ es) first before after same l = (l.0, l.1, (λ h. same h ∙ l.2 h), l.3)

leads-then : (g : PartedRun) (k : ℕ) (es fs : List Event) (before middle after : List Piece) → Leads g k es before middle
    → Leads g k fs middle after → Leads g k (es ++ fs) before after
unfolding Leads
leads-then g k [] fs before middle after l m = leads-left g k fs before middle after l m
leads-then g k (e ∷ es) fs before middle after l m =
    (l.0, l.1, l.2, leads-then g k es fs (given_by g k e ++ l.0) middle after l.3 m)

leads-beside : (g : PartedRun) (k : ℕ) (es : List Event) (before after others : List Piece) → Leads g k es before after
    → Leads g k es (before ++ others) (after ++ others)
unfolding Leads
leads-beside g k [] before after others l =
    λ h. omega (arith, l h, sum_by-append h before others, sum_by-append h after others)
leads-beside g k (e ∷ es) before after others l =
    let rest = l.0 ++ others in (
      rest,
      l.1,
      (λ h.
          omega (
            arith,
            l.2 h,
            sum_by-append h before others,
            sum_by-append h (taken_by k e) l.0,
            sum_by-append h (taken_by k e) rest,
            sum_by-append h l.0 others,
          )),
      subst (λ x. Leads g k es x (after ++ others)) (append_assoc (given_by g k e) l.0 others)
          (leads-beside g k es (given_by g k e ++ l.0) after others l.3),
    )

-- the same pieces in another order
pub becomes-same : (g : PartedRun) (k : ℕ) (before after : List Piece) → Same before after → Becomes g k before after
unfolding Leads
becomes-same g k before after same = record { events = []; leads = same }

-- one event
pub becomes-event : (g : PartedRun) (k : ℕ) (e : Event) → May g k e → Becomes g k (taken_by k e) (given_by g k e)
unfolding Leads
becomes-event g k e may = record {
  events = e ∷ [];
  leads = ([], may, (λ h. omega (arith, sum_by-append h (taken_by k e) [])), (λ h. omega (arith, sum_by-append h (given_by g k e) [])));
}

-- one thing after another
pub becomes-then : (g : PartedRun) (k : ℕ) (before middle after : List Piece) → Becomes g k before middle
    → Becomes g k middle after → Becomes g k before after
becomes-then g k before middle after b c = record {
  events = b.events ++ c.events;
  leads = leads-then g k b.events c.events before middle after b.leads c.leads;
}

-- beside what stays as it is
pub becomes-beside : (g : PartedRun) (k : ℕ) (before after others : List Piece) → Becomes g k before after
    → Becomes g k (before ++ others) (after ++ others)
becomes-beside g k before after others b =
    record { events = b.events; leads = leads-beside g k b.events before after others b.leads }

-- the same where the pieces stand in any order: what becomes is taken out of a whole, and what comes of it put back
pub becomes-within : (g : PartedRun) (k : ℕ) (whole before after others result : List Piece) → Becomes g k before after
    → Same whole (before ++ others) → Same (after ++ others) result → Becomes g k whole result
becomes-within g k whole before after others result b first last =
    becomes-then g k whole (before ++ others) result (becomes-same g k whole (before ++ others) first)
    (becomes-then g k (before ++ others) (after ++ others) result (becomes-beside g k before after others b)
    (becomes-same g k (after ++ others) result last))

-- what becomes keeps a sound world sound, with all that stays beside it
pub becomes-sound : (g : PartedRun) (k : ℕ) (before after others : List Piece) → Becomes g k before after
    → IsSound g (before ++ others) → IsSound g (after ++ others)
becomes-sound g k before after others b h =
    let all = becomes-beside g k before after others b in
    sound-leads g k all.events (before ++ others) (after ++ others) all.leads h

-- events of a part are happenings of the world
in_part : ℕ → List Event → List Happening
in_part k [] = []
in_part k (e ∷ es) = InPart k e ∷ in_part k es

leads-unrolls : (g : PartedRun) (k : ℕ) (es : List Event) (before after : List Piece) → Leads g k es before after
    → Unrolls g (in_part k es) before after
unfolding Leads Unrolls in_part
leads-unrolls g k [] before after l = l
leads-unrolls g k (e ∷ es) before after l = (l.0, l.1, l.2, leads-unrolls g k es (given_by g k e ++ l.0) after l.3)

pub becomes-unrolls : (g : PartedRun) (k : ℕ) (before after : List Piece) → Becomes g k before after
    → (es : List Happening) × Unrolls g es before after
becomes-unrolls g k before after b = (in_part k b.events, leads-unrolls g k b.events before after b.leads)
