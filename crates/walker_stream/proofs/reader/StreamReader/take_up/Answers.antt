use Rattle.std.proofs.Common.{◌≡◌, arith, ap, sym, ◌∙◌}
use Rattle.walker_stream.specs.Standing.{Standing}
use Rattle.walker_stream.proofs.ReaderLemmas.{holds-taken}
use Rattle.walker_stream.proofs.reader.StreamReader.take_up.Goals as goal
use Rattle.walker_stream.proofs.reader.StreamReader.take_up.Goals.{then-carried-self, else-carried-self}

pub invariant_of-self : goal.invariant_of-self
invariant_of-self c =
    let now : c.self-2.inside.seed ≡ c.if-carried-self.self.seed = ap (λ (s : Standing). s.seed) c.self-2.view_is in
    let before : c.self.inside.seed ≡ c.args.self.now.seed = ap (λ (s : Standing). s.seed) c.self.view_is in
    let own : c.self-2.inside.seed ≡ c.carried.inside.seed =
    now ∙ elim c.if-carried-self.branch [
      | then-carried-self w ↦ ap (λ (s : Standing). s.seed) (w.self-is ∙ w.begin_anew.ensures)
      | else-carried-self w ↦ ap (λ (s : Standing). s.seed) w.self-is ∙ sym before ∙ sym w.if-carried-self.false
    ] in
    holds-taken c.carried.inside c.self-2.inside.seed c.put_last.new.words c.self-2.inside.generator c.carried.invariant
    own (omega arith) c.self-2.invariant.key c.put_last.ensures
