-- Requests as asks at a desk, and the answers to them.
use Rattle.std.specs.Prelude.{◌≡◌, ◌+◌, ◌≤◌, ◌<◌, ◌^◌, ℕ, List, [], ◌∷◌, ◌++◌, length, drop, map, slice_index_or, Option, Some, None, IfSome, All, Vec}
use Rattle.std.specs.declared.alloc.Global.{Global}
use Rattle.request_reader.specs.declared.requests.Request.{Request}
use Rattle.walk_desk.specs.declared.asks.WalkAsk.{WalkAsk}
use Rattle.walk_desk.specs.declared.asks.WalkAnswer.{WalkAnswer}

-- the good ones among requests
abbrev pub good_ones : List (Option Request) → List Request
good_ones [] = []
good_ones (None ∷ more) = good_ones more
good_ones (Some q ∷ more) = q ∷ good_ones more

-- what an ask asks for
abbrev pub request_in : WalkAsk → Request
request_in a = record { stream = a.stream; start = a.start; length = a.length }

-- the good requests before a place have been asked for, in their order
pub record HasAsked (requests : List (Option Request)) (next : ℕ) (asks : List WalkAsk) : Type 0 where
  pub so_far : map request_in asks ++ good_ones (drop next requests) ≡ good_ones requests
  pub few : length asks ≤ next
  pub within : next ≤ length requests

-- no good request is longer than 65,536 steps
abbrev pub AreShort : List (Option Request) → Type 0
AreShort requests = All (λ r. IfSome r (λ q. q.length ≤ 65536)) requests

-- the same of each file, none of which has too many requests to be counted
abbrev pub AreAllShort : List (Vec (Option Request) Global) → Type 0
AreAllShort files = All (λ (f : Vec (Option Request) Global). (length f.items < 2 ^ 63) × AreShort f.items) files

-- the requests of files as lists
abbrev pub lists_of : List (Vec (Option Request) Global) → List (List (Option Request))
lists_of files = map (λ (f : Vec (Option Request) Global). f.items) files

-- the walks in answers
abbrev pub walks_in : List WalkAnswer → List (Option (List ℕ))
walks_in answers = map (λ (a : WalkAnswer). a.walk) answers

-- answers, the first of which were taken before others, have the walks of the good requests in their order
abbrev pub AreAnswers : (Request → Option (List ℕ)) → List (Option Request) → List WalkAnswer → List WalkAnswer → Type 0
AreAnswers walks requests taken left = walks_in (taken ++ left) ≡ map walks (good_ones requests)

-- the same of the requests and answers of each file
pub record AreAllAnswered (walks : Request → Option (List ℕ)) (files : List (Vec (Option Request) Global)) (taken left : List (Vec WalkAnswer Global)) : Type 0 where
  pub taken_count : length taken ≡ length files
  pub left_count : length left ≡ length files
  pub each : (k : ℕ) (f : Vec (Option Request) Global) (t l : Vec WalkAnswer Global) → k < length files
      → AreAnswers walks (slice_index_or files k f).items (slice_index_or taken k t).items (slice_index_or left k l).items

-- there is an answer to each good request of each file
pub record AreAllCounted (files : List (Vec (Option Request) Global)) (taken left : List (Vec WalkAnswer Global)) : Type 0 where
  pub taken_count : length taken ≡ length files
  pub left_count : length left ≡ length files
  pub each : (k : ℕ) (f : Vec (Option Request) Global) (t l : Vec WalkAnswer Global) → k < length files
      → length (slice_index_or taken k t).items + length (slice_index_or left k l).items ≡ length (good_ones (slice_index_or files k f).items)
