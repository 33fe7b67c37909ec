use Rattle.std.proofs.Common.{◌∷◌, sym, ◌∙◌}
use Rattle.edge_reader.proofs.ByteLemmas.{comment-is}
use Rattle.edge_reader.proofs.unfinished.take_solid.Goals as goal

pub returns-in-Comment-clause-goes_on : goal.returns-in-Comment-clause-goes_on
returns-in-Comment-clause-goes_on c = λ rest.
    rw c.in-Comment.is (comment-is _ _ rest ∙ sym (comment-is _ _ (c.args.b ∷ rest)))
