use Rattle.std.proofs.Common.{◌≡◌, ◌∙◌, ap}
use Rattle.std.proofs.lemmas.Result.{IfOk-weaker}
use Rattle.walk_model.specs.Graph.{vertices_of}
use Rattle.vertex_names.specs.Marks.{marked_from}
use Rattle.vertex_names.proofs.RisingLemmas.{vertices-is}
use Rattle.vertex_names.proofs.MarkLemmas.{increasing-marked, is_name-marked}
use Rattle.vertex_names.proofs.collecting.ids_of.Goals as goal

pub returns-then-most-edges : goal.returns-then-most-edges
returns-then-most-edges c =
    let marks = c.in_ok-marks.marks.items in
    let all : marked_from 0 c.in_ok-marks.marks.items ≡ vertices_of c.args.edges.now =
    vertices-is c.args.edges.now (marked_from 0 marks) (increasing-marked marks) (λ x. is_name-marked marks x ∙ c.in_ok-marks.ensures.marks x) in
    IfOk-weaker c.numbers_of.result (λ r. r.items ≡ marked_from 0 c.deref.result.now) (λ r. r.items ≡ vertices_of c.args.edges.now)
    (λ r is. is ∙ ap (marked_from 0) c.deref.ensures.value ∙ all) c.numbers_of.ensures

pub returns : goal.returns
returns c = vertices-is c.args.edges.now c.in_ok-ends.ends.items c.in_ok-ends.ensures.rising c.in_ok-ends.ensures.names
