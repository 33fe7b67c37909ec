use Rattle.std.proofs.Common.{◌≡◌, ◌/◌, ◌&&◌, nat_le, false, refl, inl, inr}
use Rattle.std.proofs.lemmas.Bool.{le-leb, lt-leb, and_left, and_right}
use Rattle.walk_model.proofs.FractionLemmas.{IsGcd-some, IsGcd-divides, IsGcd-lowest}
use Rattle.walk_programme.specs.Fractions.{reduced}
use Rattle.walk_programme.proofs.DivisorLemmas.{divisor_up_to-gcd}
use Rattle.walk_programme.proofs.fractions.reduced.Goals as goal

pub nonzero_div-top : goal.nonzero_div-top
nonzero_div-top c = IsGcd-some c.args.top c.args.bottom c.divisor_of-divisor.result c.requires c.divisor_of-divisor.ensures

pub nonzero_div-bottom : goal.nonzero_div-bottom
nonzero_div-bottom c = IsGcd-some c.args.top c.args.bottom c.divisor_of-divisor.result c.requires c.divisor_of-divisor.ensures

pub returns-then-top-gt-MOST_PART : goal.returns-then-top-gt-MOST_PART
unfolding reduced
returns-then-top-gt-MOST_PART c =
    let g = c.divisor_of-divisor.result in
    let same = divisor_up_to-gcd c.args.top c.args.bottom g c.requires c.divisor_of-divisor.ensures in
    let over : (nat_le (c.args.top / g) 1000000 && nat_le (c.args.bottom / g) 1000000) ≡ false =
    elim c.then-top-gt-MOST_PART.either [
      | inl much ↦ and_left _ _ (lt-leb (c.args.top / g) 1000000 much)
      | inr both ↦ and_right _ _ (lt-leb (c.args.bottom / g) 1000000 both.1)
    ] in
    rw (same, over) refl

pub invariant_of-result : goal.invariant_of-result
invariant_of-result c = record {
  top = c.if-top-gt-MOST_PART.false;
  bottom = c.if-bottom-gt-MOST_PART.false;
  divides = IsGcd-divides c.args.top c.args.bottom c.divisor_of-divisor.result c.requires c.divisor_of-divisor.ensures;
  lowest = IsGcd-lowest c.args.top c.args.bottom c.divisor_of-divisor.result c.requires c.divisor_of-divisor.ensures;
}

pub returns : goal.returns
unfolding reduced
returns c =
    let g = c.divisor_of-divisor.result in
    let same = divisor_up_to-gcd c.args.top c.args.bottom g c.requires c.divisor_of-divisor.ensures in
    rw (same, le-leb (c.args.top / g) 1000000 c.if-top-gt-MOST_PART.false, le-leb (c.args.bottom / g) 1000000 c.if-bottom-gt-MOST_PART.false) refl
