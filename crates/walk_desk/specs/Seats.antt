-- What a contract sees of a client, and of clients by place.
use Rattle.std.specs.Prelude.{ℕ, zero, suc, List, [], ◌∷◌}
use Rattle.walk_desk.specs.declared.asks.WalkAsk.{WalkAsk}
use Rattle.walk_desk.specs.declared.asks.WalkAnswer.{WalkAnswer}

-- a client: its place, the capacity of its rings, the asks that it made and the answers that it took, each in order. Of its rings it
-- knows how many places are free for asks, and which answers come next
pub record Seat : Type 0 where
  pub place : ℕ
  pub capacity : ℕ
  pub asks : List WalkAsk
  pub answers : List WalkAnswer
  pub free : ℕ
  pub shown : List WalkAnswer

-- a client that has asked nothing yet
abbrev pub new_seat : ℕ → ℕ → Seat
new_seat capacity place = record { place = place; capacity = capacity; asks = []; answers = []; free = capacity; shown = [] }

-- n such clients, by rising place
abbrev pub new_seats : ℕ → ℕ → ℕ → List Seat
new_seats capacity place zero = []
new_seats capacity place (suc n) = new_seat capacity place ∷ new_seats capacity (suc place) n

-- n places, rising
abbrev pub places_from : ℕ → ℕ → List ℕ
places_from place zero = []
places_from place (suc n) = place ∷ places_from (suc place) n
