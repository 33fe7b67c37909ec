use Rattle.std.proofs.Common.{◌∙◌}
use Rattle.walk_model.proofs.BeginningLaws.{length-walks_at}
use Rattle.walk_model.proofs.results.Finished.count.Goals as goal

pub returns : goal.returns
returns c = rw (← c.self.view_is, length-walks_at) (c.len.ensures ∙ c.self.inside.begins.ok.0)
