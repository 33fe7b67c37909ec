-- The replies to requests.
use Rattle.std.specs.Prelude.{ℕ, List, [], ◌++◌, map, codes, if◌then◌else◌, Option, Some, None}
use Rattle.std.specs.List.{concat}
use Rattle.walk_model.specs.Course.{GraphRun, course}
use Rattle.walk_model.specs.Text.{line}
use Rattle.walk_model.specs.Walk.{walk}
use Rattle.walk_model.specs.Words.{word}
use Rattle.vertex_names.specs.Ranks.{is_name}
use Rattle.request_reader.specs.declared.requests.Request.{Request}

-- the walk that a request asks for: by its own stream, from its own start, of its own length at most; none where its start is no
-- vertex
unfoldable pub asked_walk : GraphRun → Request → Option (List ℕ)
asked_walk run q =
    if is_name run.vertices q.start
    then Some (walk (course run.edges run.plan (word run.seed q.stream) q.start) q.length)
    else None

-- the line of a walk, or of none
abbrev pub walk_line : Option (List ℕ) → List ℕ
walk_line None = codes "? no vertex" ++ codes "\n"
walk_line (Some entries) = line entries

-- the reply to a request, where these are the walks that requests ask for
abbrev pub reply : (Request → Option (List ℕ)) → Option Request → List ℕ
reply walks None = codes "? bad request" ++ codes "\n"
reply walks (Some q) = walk_line (walks q)

-- the replies to the requests of a file, in their order
unfoldable pub replies : (Request → Option (List ℕ)) → List (Option Request) → List ℕ
replies walks requests = concat (map (reply walks) requests)

-- the replies to those of several files, file by file
unfoldable pub all_replies : (Request → Option (List ℕ)) → List (List (Option Request)) → List ℕ
all_replies walks files = concat (map (replies walks) files)
