use Rattle.std.proofs.Common.{sym, ◌∙◌, subst, ap, arith, length}
use Rattle.std.specs.List.Sorted.{IsStrictlyIncreasing}
use Rattle.walk_model.specs.Graph.{vertices_of}
use Rattle.vertex_names.specs.Ranks.{AreNamed}
use Rattle.vertex_names.proofs.RisingLemmas.{Rises-vertices, increasing-from_Rises, length-vertices}
use Rattle.vertex_names.proofs.NameLaws.{vertices-name}
use Rattle.vertex_names.proofs.names.Names.of.Goals as goal

pub indexed-requires-clause-rising : goal.indexed-requires-clause-rising
indexed-requires-clause-rising c =
    subst IsStrictlyIncreasing (sym c.in_ok-ids.ensures) (increasing-from_Rises 0 (vertices_of c.args.edges.now) (Rises-vertices c.args.edges.now))

pub indexed-requires-clause-few : goal.indexed-requires-clause-few
indexed-requires-clause-few c =
    let most = length-vertices c.args.edges.now in
    let same = ap length c.in_ok-ids.ensures in
    omega arith

pub returns-clause-ends : goal.returns-clause-ends
returns-clause-ends c =
    subst (λ l. AreNamed l c.args.edges.now) (sym (c.in_ok-names.ensures ∙ c.in_ok-ids.ensures)) (vertices-name c.args.edges.now)
