use Rattle.edge_reader.proofs.FieldLemmas.{with_fields-all}
use Rattle.edge_reader.proofs.gathered.Gathered.none.Goals as goal

pub returns-clause-fields : goal.returns-clause-fields
returns-clause-fields c = with_fields-all
