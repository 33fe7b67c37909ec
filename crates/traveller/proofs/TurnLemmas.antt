-- A turn in two halves is a turn.
use Rattle.std.proofs.Common.{◌≡◌, Bool, true, false, Option, Some, None, refl, ap, subst}
use Rattle.std.specs.Prelude.{IsTrue, nat_lt, if◌then◌else◌}
use Rattle.walk_model.specs.declared.states.State.{State}
use Rattle.walk_model.specs.Walk.{restarted, moved_along}
use Rattle.walk_model.specs.Letters.{Journey}
use Rattle.traveller.specs.declared.modes.Mode.{Mode}
use Rattle.traveller.specs.declared.modes.Mode.TheVariants.{Fresh, Darts, Asked, AskedRow, Chosen, Over}
use Rattle.traveller.specs.Deciding.{decided, decided_from, coins_decided, gone, gone_from}
use Rattle.traveller.specs.Turns.{stop_coin, restart_coin, row_at, asker_at, board_at, throws, choice_mode, stepped, goes, begun, turned}
use Rattle.traveller.specs.Walkers.{Walker, is_ready}

-- a step doesn't depend on the mode before it
stepped-any : (v : Walker) (m : Mode) (o : Option State) → stepped (record v { mode = m }) o ≡ stepped v o
stepped-any v m None = refl
stepped-any v m (Some t) = refl

-- going from a mode that was come to
goes-gone : (j : Journey) (v : Walker) (m : Mode) → gone_from j (record v { mode = m }) m ≡ goes j v m
goes-gone j v Fresh = refl
goes-gone j v (Darts left place) = refl
goes-gone j v (Asked left place question) = refl
goes-gone j v (AskedRow place question) = refl
goes-gone j v (Chosen edge place) = stepped-any v (Chosen edge place) (moved_along v.state (row_at j v.state) (edge, place))
goes-gone j v Over = refl

from-beginning : (j : Journey) (v : Walker)
    → gone j (if nat_lt v.state.steps v.length then coins_decided j v else record v { mode = Over }) ≡ begun j v
unfolding begun coins_decided
from-beginning j v =
    let go : Walker → Walker = gone j in
    let chosen : gone j (record v { mode = choice_mode j v.state (restart_coin j v.state).1 }) ≡ goes j v (choice_mode j v.state (restart_coin j v.state).1) =
    goes-gone j v (choice_mode j v.state (restart_coin j v.state).1) in
    elim (nat_lt v.state.steps v.length) as (λ b. gone j (if b then
    (if (stop_coin j v.state).0 then record v { mode = Over }
    else (if (restart_coin j v.state).0 then stepped v (Some (restarted j.course.start v.state (restart_coin j v.state).1))
    else record v { mode = choice_mode j v.state (restart_coin j v.state).1 }))
    else record v { mode = Over })
    ≡ (if b then
    (if (stop_coin j v.state).0 then record v { mode = Over }
    else (if (restart_coin j v.state).0 then stepped v (Some (restarted j.course.start v.state (restart_coin j v.state).1))
    else goes j v (choice_mode j v.state (restart_coin j v.state).1)))
    else record v { mode = Over })) [
      | false ↦ refl
      | true ↦
          elim (stop_coin j v.state).0 as (λ b. gone j (if b then record v { mode = Over }
          else (if (restart_coin j v.state).0 then stepped v (Some (restarted j.course.start v.state (restart_coin j v.state).1))
          else record v { mode = choice_mode j v.state (restart_coin j v.state).1 }))
          ≡ (if b then record v { mode = Over }
          else (if (restart_coin j v.state).0 then stepped v (Some (restarted j.course.start v.state (restart_coin j v.state).1))
          else goes j v (choice_mode j v.state (restart_coin j v.state).1)))) [
            | true ↦ refl
            | false ↦
                elim (restart_coin j v.state).0 as (λ b. gone j (if b then stepped v (Some (restarted j.course.start v.state (restart_coin j v.state).1))
                else record v { mode = choice_mode j v.state (restart_coin j v.state).1 })
                ≡ (if b then stepped v (Some (restarted j.course.start v.state (restart_coin j v.state).1))
                else goes j v (choice_mode j v.state (restart_coin j v.state).1))) [
                  | true ↦ refl
                  | false ↦ chosen
                ]
          ]
    ]

halves-from : (j : Journey) (v : Walker) (m : Mode) → v.mode ≡ m → IsTrue (is_ready m) → gone j (decided_from j v m) ≡ turned j v m
halves-from j v Fresh is ready = from-beginning j v
halves-from j v (Darts left place) is ready =
    goes-gone j v (throws left (asker_at j v.state) (board_at j v.state) j.course.words place)
halves-from j v (Chosen edge place) is ready = ap (gone_from j v) is
halves-from j v (Asked left place question) is ready = absurd (false_true ready)
  where
    false_true : false ≡ true → ⊥
    false_true e = let P : Bool → Type 0 = λ b. elim b as (λ _. Type 0) [ true ↦ ⊥ | false ↦ Unit {0} ] in subst P e tt
halves-from j v (AskedRow place question) is ready = absurd (false_true ready)
  where
    false_true : false ≡ true → ⊥
    false_true e = let P : Bool → Type 0 = λ b. elim b as (λ _. Type 0) [ true ↦ ⊥ | false ↦ Unit {0} ] in subst P e tt
halves-from j v Over is ready = absurd (false_true ready)
  where
    false_true : false ≡ true → ⊥
    false_true e = let P : Bool → Type 0 = λ b. elim b as (λ _. Type 0) [ true ↦ ⊥ | false ↦ Unit {0} ] in subst P e tt

-- a turn of a walker that can go on
pub halves : (j : Journey) (v : Walker) → IsTrue (is_ready v.mode) → gone j (decided j v) ≡ turned j v v.mode
halves j v ready = halves-from j v v.mode refl ready
