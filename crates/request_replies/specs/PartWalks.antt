-- Walks that are asked for of a part that has all vertices.
use Rattle.std.specs.Prelude.{ℕ, List, map, slice_index, Option, option_map}
use Rattle.walk_model.specs.declared.results.Print.{Print}
use Rattle.walk_model.specs.Course.{course}
use Rattle.walk_model.specs.Walk.{walk}
use Rattle.walk_model.specs.Words.{word}
use Rattle.vertex_names.specs.Ranks.{rank_of}
use Rattle.traveller.specs.Heres.{Here}
use Rattle.request_reader.specs.declared.requests.Request.{Request}

-- the walk of a stream from a rank, in ranks
abbrev pub rank_walk : Here → ℕ → ℕ → ℕ → List ℕ
rank_walk here stream rank steps = walk (course here.part.edges here.run.plan (word here.run.seed stream) rank) steps

-- the walk of a request in ids, or none where its start is no name
unfoldable pub part_walk : List ℕ → Here → Request → Option (List ℕ)
part_walk names here q = option_map (λ rank. map (slice_index names) (rank_walk here q.stream rank q.length)) (rank_of names q.start)

-- the ids of the vertices in prints
abbrev pub ids_of : List ℕ → List Print → List ℕ
ids_of names prints = map (λ (p : Print). slice_index names p.at) prints
