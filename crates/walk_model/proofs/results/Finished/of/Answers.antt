use Rattle.walk_model.proofs.BeginningLaws.{concat-walks_at}
use Rattle.walk_model.proofs.results.Finished.of.Goals as goal

pub returns-clause-whole : goal.returns-clause-whole
returns-clause-whole c =
    let all = concat-walks_at c.args.entries.items c.args.begins.items c.requires.rising c.requires.below in
    rw c.requires.first at all
