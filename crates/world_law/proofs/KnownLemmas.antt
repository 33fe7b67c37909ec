-- The events of a part, as the part knows them, are those of the whole graph.
use Rattle.std.proofs.Common.{◌≡◌, ℕ, Bool, List, [], ◌∷◌, ◌++◌, refl, ap, ◌∙◌, None, Some, subst}
use Rattle.std.specs.Prelude.{Option, ◌==◌, length, nat_lt, if◌then◌else◌}
use Rattle.walk_model.specs.declared.programme.Rule.{Rule}
use Rattle.walk_model.specs.declared.programme.Rule.TheVariants.{Plain, Scheme, Node2vec}
use Rattle.walk_model.specs.declared.messages.Question.{Question}
use Rattle.walk_model.specs.declared.messages.Question.TheVariants as question
use Rattle.walk_model.specs.declared.messages.Found.TheVariants as found
use Rattle.walk_model.specs.declared.messages.Found.{Found}
use Rattle.walk_model.specs.declared.graph.Edge.{Edge}
use Rattle.walk_model.specs.declared.states.State.{State}
use Rattle.walk_model.specs.Graph.{row, ends_of}
use Rattle.walk_model.specs.Dart.{Board, board_of}
use Rattle.walk_model.specs.Walk.{moved_along, restarted}
use Rattle.walk_model.specs.Letters.{Asker}
use Rattle.traveller.specs.declared.modes.Mode.{Mode}
use Rattle.traveller.specs.declared.modes.Mode.TheVariants.{Fresh, Darts, Asked, AskedRow, Chosen, Over}
use Rattle.traveller.specs.PartedRuns.{PartedRun, journey_from}
use Rattle.traveller.specs.Walkers.{Walker, asked_vertex}
use Rattle.traveller.specs.Turns.{stop_coin, restart_coin, board_at, asker_by, asker_at, throws, choice_mode, stepped, goes, begun, turned, advance}
use Rattle.traveller.specs.Replies.{rising, found_in, near_by, heard_mode, hear}
use Rattle.world_law.specs.Items.{Replies}
use Rattle.world_law.specs.PartRuns.{HasRowsOf, knowing}
use Rattle.world_law.specs.Worlds.{Piece, Resident, Goes}
use Rattle.world_law.specs.Events.{Event, Arrives, Turns, Enters, Answered, Hears, May, given_by, turn_gives, Leads, Becomes}
use Rattle.world_law.proofs.PartLemmas.{has_edge-rows, part_factors, throws-alike, alike-part}

board-part : (g : PartedRun) (k : ℕ) (known : List Edge) (rows : HasRowsOf g k known) (n start : ℕ) (s : State) → g.owner s.at ≡ k
    → board_at (journey_from (knowing g known) n start) s ≡ record (board_at (journey_from g n start) s) { factors = part_factors g known s }
unfolding board_of
board-part g k known rows n start s at = rw (rows s.at at) refl

asker_by-part : (g : PartedRun) (k : ℕ) (known : List Edge) (rows : HasRowsOf g k known) (n start : ℕ) (s : State) (rule : Rule) (previous : Option ℕ) → g.owner s.at ≡ k
    → asker_by (journey_from (knowing g known) n start) s rule previous ≡ asker_by (journey_from g n start) s rule previous
asker_by-part g k known rows n start s Plain previous at = refl
asker_by-part g k known rows n start s (Scheme kinds) previous at = refl
asker_by-part g k known rows n start s (Node2vec p q) None at = refl
asker_by-part g k known rows n start s (Node2vec p q) (Some t) at = rw (rows s.at at) refl

throws-part : (g : PartedRun) (k : ℕ) (known : List Edge) (rows : HasRowsOf g k known) (n start left place : ℕ) (s : State) → g.owner s.at ≡ k
    → throws left (asker_at (journey_from (knowing g known) n start) s) (board_at (journey_from (knowing g known) n start) s) (journey_from (knowing g known) n start).course.words place
    ≡ throws left (asker_at (journey_from g n start) s) (board_at (journey_from g n start) s) (journey_from g n start).course.words place
throws-part g k known rows n start left place s at =
    let words = (journey_from g n start).course.words in
    ap (λ r. throws left r (board_at (journey_from (knowing g known) n start) s) words place) (asker_by-part g k known rows n start s g.plan.rule s.previous at)
    ∙ ap (λ b. throws left (asker_at (journey_from g n start) s) b words place) (board-part g k known rows n start s at)
    ∙ throws-alike left (asker_at (journey_from g n start) s) (board_at (journey_from g n start) s) (part_factors g known s) words place
    (alike-part g k known rows n start s at)

choice-part : (g : PartedRun) (k : ℕ) (known : List Edge) (rows : HasRowsOf g k known) (n start place : ℕ) (s : State) → g.owner s.at ≡ k
    → choice_mode (journey_from (knowing g known) n start) s place ≡ choice_mode (journey_from g n start) s place
choice-part g k known rows n start place s at =
    ap (λ out. if length out == 0 then Over
    else throws g.plan.retries (asker_at (journey_from (knowing g known) n start) s) (board_at (journey_from (knowing g known) n start) s) (journey_from (knowing g known) n start).course.words place)
    (rows s.at at)
    ∙ ap (λ m. if length (row g.edges s.at) == 0 then Over else m) (throws-part g k known rows n start g.plan.retries place s at)

goes-part : (g : PartedRun) (k : ℕ) (known : List Edge) (rows : HasRowsOf g k known) (n start : ℕ) (v : Walker) (m : Mode) → g.owner v.state.at ≡ k
    → goes (journey_from (knowing g known) n start) v m ≡ goes (journey_from g n start) v m
goes-part g k known rows n start v Fresh at = refl
goes-part g k known rows n start v (Darts left place) at = refl
goes-part g k known rows n start v (Asked left place q) at = refl
goes-part g k known rows n start v (AskedRow place q) at = refl
goes-part g k known rows n start v (Chosen edge place) at = ap (λ out. stepped v (moved_along v.state out (edge, place))) (rows v.state.at at)
goes-part g k known rows n start v Over at = refl

begun-part : (g : PartedRun) (k : ℕ) (known : List Edge) (rows : HasRowsOf g k known) (n start : ℕ) (v : Walker) → g.owner v.state.at ≡ k
    → begun (journey_from (knowing g known) n start) v ≡ begun (journey_from g n start) v
unfolding begun
begun-part g k known rows n start v at =
    let j = journey_from g n start in
    let place = (restart_coin j v.state).1 in
    ap (λ w. if nat_lt v.state.steps v.length then (
    if (stop_coin j v.state).0 then record v { mode = Over }
    else (if (restart_coin j v.state).0 then stepped v (Some (restarted start v.state place)) else w))
    else record v { mode = Over })
    (goes-part g k known rows n start v (choice_mode (journey_from (knowing g known) n start) v.state place) at
    ∙ ap (goes j v) (choice-part g k known rows n start place v.state at))

turned-part : (g : PartedRun) (k : ℕ) (known : List Edge) (rows : HasRowsOf g k known) (n start : ℕ) (v : Walker) (m : Mode) → g.owner v.state.at ≡ k
    → turned (journey_from (knowing g known) n start) v m ≡ turned (journey_from g n start) v m
turned-part g k known rows n start v Fresh at = begun-part g k known rows n start v at
turned-part g k known rows n start v (Darts left place) at =
    goes-part g k known rows n start v _ at ∙ ap (goes (journey_from g n start) v) (throws-part g k known rows n start left place v.state at)
turned-part g k known rows n start v (Chosen edge place) at = goes-part g k known rows n start v (Chosen edge place) at
turned-part g k known rows n start v (Asked left place q) at = refl
turned-part g k known rows n start v (AskedRow place q) at = refl
turned-part g k known rows n start v Over at = refl

-- a turn by what the part knows is the turn on the whole graph
pub advance-part : (g : PartedRun) (k : ℕ) (known : List Edge) (rows : HasRowsOf g k known) (v : Walker) → g.owner v.state.at ≡ k → advance (knowing g known) v ≡ advance g v
advance-part g k known rows v at = turned-part g k known rows v.number v.start v v.mode at

heard-alike : (r : Option Asker) (b : Board) (fs : List ℕ) (words : ℕ → ℕ) (m : Mode) (near : ℕ → Bool)
    → heard_mode r (record b { factors = fs }) words m near ≡ heard_mode r b words m near
heard-alike None b fs words m near = refl
heard-alike (Some a) b fs words Fresh near = refl
heard-alike (Some a) b fs words (Darts left place) near = refl
heard-alike (Some a) b fs words (Asked left place q) near = refl
heard-alike (Some a) b fs words (AskedRow place q) near = refl
heard-alike (Some a) b fs words (Chosen edge place) near = refl
heard-alike (Some a) b fs words Over near = refl

-- what a walker makes of a reply by what the part knows is what it makes of it on the whole graph
pub hear-part : (g : PartedRun) (k : ℕ) (known : List Edge) (rows : HasRowsOf g k known) (v : Walker) (answer : Found) → g.owner v.state.at ≡ k
    → hear (knowing g known) v answer ≡ hear g v answer
hear-part g k known rows v answer at =
    let j = journey_from g v.number v.start in
    let jp = journey_from (knowing g known) v.number v.start in
    let near = near_by answer in
    ap (λ m. record v { mode = m })
    (ap (λ r. heard_mode r (board_at jp v.state) j.course.words v.mode near) (asker_by-part g k known rows v.number v.start v.state g.plan.rule v.state.previous at)
    ∙ ap (λ b. heard_mode (asker_at j v.state) b j.course.words v.mode near) (board-part g k known rows v.number v.start v.state at)
    ∙ heard-alike (asker_at j v.state) (board_at j v.state) (part_factors g known v.state) j.course.words v.mode near)

-- what a part answers about its own vertices is what the whole graph answers
found-part : (g : PartedRun) (k : ℕ) (known : List Edge) (rows : HasRowsOf g k known) (q : Question) → g.owner (asked_vertex q) ≡ k → found_in known q ≡ found_in g.edges q
found-part g k known rows (question.Edge t x) own = ap found.Edge (has_edge-rows known g.edges t x (rows t own))
found-part g k known rows (question.Row t) own = ap (λ out. found.Row (rising (ends_of out))) (rows t own)

pub may-part : (g : PartedRun) (k : ℕ) (known : List Edge) (rows : HasRowsOf g k known) (e : Event) → May (knowing g known) k e → May g k e
may-part g k known rows (Arrives i) may = may
may-part g k known rows (Turns v) may = may
may-part g k known rows (Enters v from to) may = may
may-part g k known rows (Answered ask to) may = may
may-part g k known rows (Hears v reply from) may = may

-- an event by what the part knows is one of the whole graph
pub given-part : (g : PartedRun) (k : ℕ) (known : List Edge) (rows : HasRowsOf g k known) (e : Event) → May g k e → given_by (knowing g known) k e ≡ given_by g k e
given-part g k known rows (Arrives i) may = refl
given-part g k known rows (Turns v) may = ap (turn_gives g k) (advance-part g k known rows v may.1)
given-part g k known rows (Enters v from to) may = refl
given-part g k known rows (Answered ask to) may =
    ap (λ f. Goes (Replies (record { ask = ask; found = f }) k) ∷ []) (found-part g k known rows ask.question may)
given-part g k known rows (Hears v reply from) may = ap (λ w. Resident k w ∷ []) (hear-part g k known rows v reply.found may.0)

leads-part : (g : PartedRun) (k : ℕ) (known : List Edge) (rows : HasRowsOf g k known) (es : List Event) (before after : List Piece) → Leads (knowing g known) k es before after
    → Leads g k es before after
unfolding Leads
leads-part g k known rows [] before after l = l
leads-part g k known rows (e ∷ es) before after l =
    let may = may-part g k known rows e l.1 in
    let next = leads-part g k known rows es (given_by (knowing g known) k e ++ l.0) after l.3 in
    (l.0, may, l.2, subst (λ x. Leads g k es (x ++ l.0) after) (given-part g k known rows e may) next)

-- what becomes in a part by what the part knows becomes so in the world
pub becomes-part : (g : PartedRun) (k : ℕ) (known : List Edge) (rows : HasRowsOf g k known) (before after : List Piece) → Becomes (knowing g known) k before after
    → Becomes g k before after
becomes-part g k known rows before after b = record { events = b.events; leads = leads-part g k known rows b.events before after b.leads }
