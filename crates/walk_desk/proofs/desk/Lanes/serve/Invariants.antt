use Rattle.std.proofs.Common.{◌≡◌, ◌<◌, ℕ, map, None, get_or, vec_len}
use Rattle.walk_desk.specs.Posts.{Post}
use Rattle.walk_desk.proofs.desk.Lanes.serve.Given as goal

abbrev pub invariant-loop-k : goal.invariant-loop-k
invariant-loop-k g l =
    (map (λ (p : Post). p.place) l.lanes.items ≡ map (λ (p : Post). p.place) l.initial.lanes.items)
    × ((j : ℕ) (d : Post) → j < l.k → (get_or l.lanes.items j d).taken ≡ None)
    × (vec_len l.lanes ≡ vec_len l.initial.lanes)
