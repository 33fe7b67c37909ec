use Rattle.std.proofs.Common.{◌≡◌, arith, ap, ◌∙◌}
use Rattle.walk_model.specs.Words.{word}
use Rattle.walker_stream.specs.Held.{place_by}
use Rattle.walker_stream.specs.Standing.{Standing}
use Rattle.walker_stream.proofs.ReaderLemmas.{holds-renewed, word-here}
use Rattle.walker_stream.proofs.reader.StreamReader.peek.Goals as goal
use Rattle.walker_stream.proofs.reader.StreamReader.peek.Goals.{then-self-ge-HELD, else-self-ge-HELD}

pub invariant_of-self : goal.invariant_of-self
invariant_of-self c =
    let here : place_by c.self.inside.origin c.self.inside.index ≡ c.args.self.now.place = ap (λ (s : Standing). s.place) c.self.view_is in
    elim c.if-self-ge-HELD.branch [
      | then-self-ge-HELD w ↦ rw w.self-inside-is
          (holds-renewed c.self.inside.seed c.self.inside.walker w.place-place.result w.renew-self-inside.result c.self.inside.generator
          w.renew-self-inside.new.generator w.renew-self-inside.new.words w.renew-self-inside.ensures.few w.renew-self-inside.ensures.within
          (omega arith) c.self.invariant.key w.renew-self-inside.ensures.moved w.renew-self-inside.ensures.words)
      | else-self-ge-HELD w ↦ rw w.self-inside-is
          c.self.invariant
    ]

pub returns-clause-word : goal.returns-clause-word
returns-clause-word c =
    let here : place_by c.self.inside.origin c.self.inside.index ≡ c.args.self.now.place = ap (λ (s : Standing). s.place) c.self.view_is in
    elim c.if-self-ge-HELD.branch [
      | then-self-ge-HELD w ↦ rw (w.self-inside-is, ← c.self.view_is)
          (word-here _ (holds-renewed c.self.inside.seed c.self.inside.walker w.place-place.result w.renew-self-inside.result c.self.inside.generator
          w.renew-self-inside.new.generator w.renew-self-inside.new.words w.renew-self-inside.ensures.few w.renew-self-inside.ensures.within
          (omega arith) c.self.invariant.key w.renew-self-inside.ensures.moved w.renew-self-inside.ensures.words)
          (omega (arith, w.renew-self-inside.ensures.few))
          ∙ ap (word c.self.inside.seed c.self.inside.walker) (omega (arith, here, w.place-place.ensures, w.renew-self-inside.ensures.within)))
      | else-self-ge-HELD w ↦ rw (w.self-inside-is, ← c.self.view_is)
          (word-here c.self.inside c.self.invariant (omega arith))
    ]
