-- What the words of `serve` ask for.
use Rattle.std.specs.Prelude.{ℕ, ◌&&◌, nat_le, if◌then◌else◌, List, [], ◌∷◌, length, Option, Some, None, option_map, option_and_then, codes, Bool, false}
use Rattle.std.specs.Str.{bytes_eq}
use Rattle.walk_top.specs.WordRules.{Said, Text, said, value_of}
use Rattle.walk_top.specs.Jobs.{greatest_seed, has_one_dash, required}

-- the names of a graph, a programme and request files, and the seed
pub record ServeJob : Type 0 where
  pub graph : Text
  pub programme : Text
  pub requests : List Text
  pub seed : ℕ

-- the greatest number of request files
abbrev pub most_requests : ℕ
most_requests = 16

-- there are 1 to 16 request files, and the name `-` is there at most once
abbrev pub are_files : Text → Text → List Text → Bool
are_files graph programme requests =
    nat_le 1 (length requests) && nat_le (length requests) most_requests && has_one_dash (graph ∷ programme ∷ requests)

-- the job of these files with a seed
abbrev pub serve_with : Text → Text → List Text → ℕ → ServeJob
serve_with graph programme requests seed = record { graph = graph; programme = programme; requests = requests; seed = seed }

-- GRAPH PROGRAMME REQUESTS.. --seed
abbrev pub serve_by : Option Text → List Text → Option ServeJob
serve_by seed (graph ∷ programme ∷ requests) =
    if are_files graph programme requests
    then option_map (serve_with graph programme requests) (required 0 greatest_seed seed)
    else None
serve_by seed _ = None

-- the names of its options, and the job of what its words say
abbrev pub serve_options : List Text
serve_options = codes "seed" ∷ []

abbrev pub serve_said : Said → Option ServeJob
serve_said s = serve_by (value_of (codes "seed") s) s.places

-- whether words are those of `serve`: the first word is
abbrev pub is_serve : List Text → Bool
is_serve [] = false
is_serve (command ∷ words) = bytes_eq command (codes "serve")

-- the job of the words after the program's name, or none
unfoldable pub serve_job : List Text → Option ServeJob
serve_job [] = None
serve_job (command ∷ words) =
    if bytes_eq command (codes "serve") then option_and_then serve_said (said serve_options words) else None

-- the names of its files, in the order in which they are read
abbrev pub serve_files : ServeJob → List Text
serve_files j = j.programme ∷ j.graph ∷ j.requests
