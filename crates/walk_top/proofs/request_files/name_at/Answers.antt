use Rattle.walk_top.proofs.ServeLemmas.{map-cut}
use Rattle.walk_top.proofs.request_files.name_at.Goals as goal

pub returns : goal.returns
returns c = map-cut (λ n. n.now) c.args.names.now c.args.k _ c.requires
