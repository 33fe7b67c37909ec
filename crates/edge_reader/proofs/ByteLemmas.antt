-- One byte more of a line.
use Rattle.std.proofs.Common.{◌≡◌, ◌≢◌, ◌==◌, ◌&&◌, ℕ, ◌+◌, ◌-◌, ◌*◌, ◌<◌, ◌≤◌, Bool, true, false, if◌then◌else◌, List, [], ◌∷◌, None, Ok, refl, ap, sym, ◌∙◌, arith}
use Rattle.std.specs.Char.{is_ascii_digit}
use Rattle.std.specs.Str.{all_ascii_digits}
use Rattle.walk_model.specs.Digits.{continued}
use Rattle.edge_reader.specs.declared.numbers.Digits.{Digits}
use Rattle.edge_reader.specs.declared.gathered.Gathered.{Gathered}
use Rattle.edge_reader.specs.declared.unfinished.Place.TheVariants.{Gap, Field, Comment}
use Rattle.edge_reader.specs.declared.unfinished.Line.{Line}
use Rattle.edge_reader.specs.Lines.{is_blank, is_sign, is_comment, fields, without_return}
use Rattle.edge_reader.specs.GraphFile.{edge_of_fields, trimmed_edge, line_edge}
use Rattle.edge_reader.specs.Numbers.{capped}
use Rattle.edge_reader.specs.Unfinished.{with_field, with_fields, outcome, stretch, beyond, from_place, kept_back, line_with}
use Rattle.edge_reader.proofs.FieldLemmas.{fields-none, fields-blank, fields-first, stretch-blank, stretch-more, beyond-blank, beyond-more, continued-capped, with_fields-none, with_fields-more, with_field-some, without_return-none, without_return-last, without_return-more, without_return-plain}

is_comment-blank : (b : ℕ) (bs : List ℕ) → is_blank b ≡ true → is_comment (b ∷ bs) ≡ is_comment bs
unfolding is_comment
is_comment-blank b bs blank = rw blank refl

is_comment-solid : (b : ℕ) (bs : List ℕ) → is_blank b ≡ false → is_comment (b ∷ bs) ≡ is_sign b
unfolding is_comment
is_comment-solid b bs solid = rw solid refl

is_comment-none : is_comment [] ≡ false
unfolding is_comment
is_comment-none = refl

and-true : (a : Bool) → (a && true) ≡ a
and-true true = refl
and-true false = refl

pub and-false : (a : Bool) → (a && false) ≡ false
and-false true = refl
and-false false = refl

and-and : (a b c : Bool) → ((a && b) && c) ≡ (a && (b && c))
and-and true b c = refl
and-and false b c = refl

continued-more : (n d : ℕ) (ds : List ℕ) → continued n (d ∷ ds) ≡ continued (10 * n + (d - 48)) ds
unfolding continued
continued-more n d ds = refl

continued-none : (n : ℕ) → continued n [] ≡ n
unfolding continued
continued-none n = refl

-- what a field comes to, by its bytes that are still to come
gap-is : (g : Gathered) (n : Digits) (rest : List ℕ)
    → from_place Gap g n rest ≡ (if g.count == 0 && is_comment rest then Ok None else with_fields g (fields rest))
unfolding from_place
gap-is g n rest = refl

field-is : (g : Gathered) (n : Digits) (rest : List ℕ)
    → from_place Field g n rest ≡ with_fields (with_field g (n.is_number && all_ascii_digits (stretch rest)) (capped (continued n.value (stretch rest)))) (fields (beyond rest))
unfolding from_place
field-is g n rest = refl

pub comment-is : (g : Gathered) (n : Digits) (rest : List ℕ) → from_place Comment g n rest ≡ Ok None
unfolding from_place
comment-is g n rest = refl

-- a blank in a gap
pub gap-blank : (g : Gathered) (n : Digits) (b : ℕ) (rest : List ℕ) → is_blank b ≡ true → from_place Gap g n rest ≡ from_place Gap g n (b ∷ rest)
gap-blank g n b rest blank =
    gap-is g n rest ∙ rw (← is_comment-blank b rest blank, ← fields-blank b rest blank) (sym (gap-is g n (b ∷ rest)))

-- a sign in front of all fields
pub gap-sign : (g : Gathered) (n : Digits) (b : ℕ) (rest : List ℕ) → is_blank b ≡ false → is_sign b ≡ true → (g.count == 0) ≡ true
    → from_place Comment g n rest ≡ from_place Gap g n (b ∷ rest)
gap-sign g n b rest solid sign none =
    comment-is g n rest ∙ sym (gap-is g n (b ∷ rest) ∙ rw (is_comment-solid b rest solid, sign, none) refl)

-- one byte more in a field
pub field-more : (g : Gathered) (n r : Digits) (b : ℕ) (rest : List ℕ) → is_blank b ≡ false
    → r.value ≡ capped (10 * n.value + (b - 48)) → r.is_number ≡ (n.is_number && is_ascii_digit b)
    → from_place Field g r rest ≡ from_place Field g n (b ∷ rest)
field-more g n r b rest solid value number =
    field-is g r rest
    ∙ rw (value, number, continued-capped (10 * n.value + (b - 48)) (stretch rest), and-and n.is_number (is_ascii_digit b) (all_ascii_digits (stretch rest)))
    (sym (field-is g n (b ∷ rest) ∙ rw (stretch-more b rest solid, beyond-more b rest solid, continued-more n.value b (stretch rest)) refl))

-- the first byte of a field
field-none : (g : Gathered) (n m : Digits) (b : ℕ) (rest : List ℕ) → is_blank b ≡ false → (g.count == 0 && is_sign b) ≡ false
    → n.value ≡ 0 → n.is_number ≡ true → from_place Field g n (b ∷ rest) ≡ from_place Gap g m (b ∷ rest)
field-none g n m b rest solid other value number =
    field-is g n (b ∷ rest)
    ∙ rw (value, number, stretch-more b rest solid, beyond-more b rest solid)
    (sym (gap-is g m (b ∷ rest) ∙ rw (is_comment-solid b rest solid, other, fields-first b rest solid) (with_fields-more g (b ∷ stretch rest) (fields (beyond rest)))))

pub gap-first : (g : Gathered) (n r m : Digits) (b : ℕ) (rest : List ℕ) → is_blank b ≡ false → (g.count == 0 && is_sign b) ≡ false
    → n.value ≡ 0 → n.is_number ≡ true → r.value ≡ capped (10 * n.value + (b - 48)) → r.is_number ≡ (n.is_number && is_ascii_digit b)
    → from_place Field g r rest ≡ from_place Gap g m (b ∷ rest)
gap-first g n r m b rest solid other none is_number value number =
    field-more g n r b rest solid value number ∙ field-none g n m b rest solid other none is_number

-- a blank ends a field
pub field-blank : (g : Gathered) (n m : Digits) (b : ℕ) (rest : List ℕ) → is_blank b ≡ true
    → from_place Gap (with_field g n.is_number n.value) m rest ≡ from_place Field g n (b ∷ rest)
field-blank g n m b rest blank =
    let same : capped n.value ≡ n.value = let low = n.in_range in omega arith in
    gap-is (with_field g n.is_number n.value) m rest
    ∙ rw (with_field-some g n.is_number n.value)
    (sym (field-is g n (b ∷ rest) ∙ rw (stretch-blank b rest blank, beyond-blank b rest blank, fields-blank b rest blank, continued-none n.value, same, and-true n.is_number) refl))

-- a line that ends here
pub gap-end : (g : Gathered) (n : Digits) → from_place Gap g n [] ≡ outcome g
gap-end g n = gap-is g n [] ∙ rw (is_comment-none, and-false (g.count == 0), fields-none) (with_fields-none g)

stretch-end : stretch [] ≡ []
unfolding stretch
stretch-end = refl

beyond-end : beyond [] ≡ []
unfolding beyond
beyond-end = refl

pub field-end : (g : Gathered) (n : Digits) → from_place Field g n [] ≡ outcome (with_field g n.is_number n.value)
field-end g n =
    let same : capped n.value ≡ n.value = let low = n.in_range in omega arith in
    field-is g n []
    ∙ rw (stretch-end, beyond-end, fields-none, continued-none n.value, same, and-true n.is_number) (with_fields-none (with_field g n.is_number n.value))

-- a carriage return at the end of a line isn't part of it
without_return-kept : (returned : Bool) → without_return (kept_back returned []) ≡ []
without_return-kept true = without_return-last 13 refl
without_return-kept false = without_return-none

pub line_with-end : (line : Line) → line_with line [] ≡ from_place line.place line.fields line.digits []
unfolding line_with
line_with-end line = rw (without_return-kept line.returned) refl

-- a line in which nothing is kept back
pub line_with-plain : (line : Line) (rest : List ℕ) → line.returned ≡ false → line_with line rest ≡ from_place line.place line.fields line.digits (without_return rest)
unfolding line_with
line_with-plain line rest plain = rw plain refl

pub line_with-kept : (line : Line) (rest : List ℕ) → line.returned ≡ true → line_with line rest ≡ from_place line.place line.fields line.digits (without_return (13 ∷ rest))
unfolding line_with
line_with-kept line rest kept = rw kept refl

-- a carriage return that is given back, since a byte follows
pub kept-more : (line after : Line) (b : ℕ) (rest : List ℕ) → line.returned ≡ true → after.returned ≡ false
    → ((rest : List ℕ) → from_place after.place after.fields after.digits rest ≡ from_place line.place line.fields line.digits (13 ∷ rest))
    → line_with after (b ∷ rest) ≡ line_with line (b ∷ rest)
kept-more line after b rest kept plain goes_on =
    line_with-plain after (b ∷ rest) plain ∙ goes_on (without_return (b ∷ rest))
    ∙ sym (line_with-kept line (b ∷ rest) kept ∙ ap (from_place line.place line.fields line.digits) (without_return-more 13 b rest))

-- a byte that isn't a carriage return
pub plain-more : (line after : Line) (b : ℕ) (rest : List ℕ) → b ≢ 13 → line.returned ≡ false → after.returned ≡ false
    → ((rest : List ℕ) → from_place after.place after.fields after.digits rest ≡ from_place line.place line.fields line.digits (b ∷ rest))
    → line_with after rest ≡ line_with line (b ∷ rest)
plain-more line after b rest other plain still goes_on =
    line_with-plain after rest still ∙ goes_on (without_return rest)
    ∙ sym (line_with-plain line (b ∷ rest) plain ∙ ap (from_place line.place line.fields line.digits) (without_return-plain b rest other))

-- a carriage return that is kept back
pub return-more : (line after : Line) (rest : List ℕ) → line.returned ≡ false → after.returned ≡ true
    → after.place ≡ line.place → after.fields ≡ line.fields → after.digits ≡ line.digits → line_with after rest ≡ line_with line (13 ∷ rest)
unfolding line_with
return-more line after rest plain kept place same digits = rw (plain, kept, place, same, digits) refl

front-is : (g : Gathered) (n : Digits) (line : List ℕ) → g.count ≡ 0 → with_fields g (fields line) ≡ edge_of_fields (fields line)
    → from_place Gap g n line ≡ trimmed_edge line
front-is g n line none all =
    gap-is g n line ∙ ap (λ k. if k == 0 && is_comment line then Ok None else with_fields g (fields line)) none
    ∙ ap (λ r. if is_comment line then Ok None else r) all

-- a line from its beginning
pub start-is : (line : Line) (text : List ℕ) → line.returned ≡ false → line.place ≡ Gap → line.fields.count ≡ 0
    → ((fs : List (List ℕ)) → with_fields line.fields fs ≡ edge_of_fields fs) → line_with line text ≡ line_edge text
start-is line text plain gap none all =
    line_with-plain line text plain
    ∙ ap (λ p. from_place p line.fields line.digits (without_return text)) gap
    ∙ front-is line.fields line.digits (without_return text) none (all (fields (without_return text)))

-- a line within a field of which these digits are known
abbrev pub in_field : Gathered → Digits → Line
in_field g n = record { place = Field; returned = false; digits = n; fields = g }

-- a digit is no other byte
pub digit-solid : (b : ℕ) → is_ascii_digit b ≡ true → is_blank b ≡ false
digit-solid b digit = grind arith

digit-no_sign : (b : ℕ) → is_ascii_digit b ≡ true → is_sign b ≡ false
digit-no_sign b digit = grind arith

digit-no_return : (b : ℕ) → is_ascii_digit b ≡ true → b ≢ 13
digit-no_return b digit = grind arith

pub digit-no_feed : (b : ℕ) → is_ascii_digit b ≡ true → b ≢ 10
digit-no_feed b digit = grind arith

pub digit-low : (b : ℕ) → is_ascii_digit b ≡ true → b ≤ 57
digit-low b digit = grind arith

blank-no_return : (b : ℕ) → is_blank b ≡ true → b ≢ 13
blank-no_return b blank = grind arith

pub blank-no_feed : (b : ℕ) → is_blank b ≡ true → b ≢ 10
blank-no_feed b blank = grind arith

-- a number with this value
abbrev pub number_at : (v : ℕ) → v ≤ 4294967296 → Digits
number_at v low = record { value = v; is_number = true; in_range = low }

-- the first digit of a number
pub number-first : (line : Line) (n : Digits) (b : ℕ) → line.place ≡ Gap → line.returned ≡ false → is_ascii_digit b ≡ true
    → n.value ≡ b - 48 → n.is_number ≡ true → (rest : List ℕ) → line_with (in_field line.fields n) rest ≡ line_with line (b ∷ rest)
number-first line n b gap plain digit value number rest =
    let no_sign : (line.fields.count == 0 && is_sign b) ≡ false = rw (digit-no_sign b digit) (and-false (line.fields.count == 0)) in
    let at : n.value ≡ capped (10 * 0 + (b - 48)) = grind arith in
    plain-more line (in_field line.fields n) b rest (digit-no_return b digit) plain refl
    (λ more. rw gap (gap-first line.fields (number_at 0 (omega arith)) n line.digits b more (digit-solid b digit) no_sign refl refl at (number ∙ sym digit)))

-- a further digit of a small one
pub number-more : (g : Gathered) (n r : Digits) (b : ℕ) → is_ascii_digit b ≡ true → n.value < 429496729 → n.is_number ≡ true
    → r.value ≡ 10 * n.value + (b - 48) → r.is_number ≡ true → (rest : List ℕ) → line_with (in_field g r) rest ≡ line_with (in_field g n) (b ∷ rest)
number-more g n r b digit small was value number rest =
    let at : r.value ≡ capped (10 * n.value + (b - 48)) = grind arith in
    plain-more (in_field g n) (in_field g r) b rest (digit-no_return b digit) refl refl
    (λ more. field-more g n r b more (digit-solid b digit) at (number ∙ rw (was, digit) refl))

-- a blank behind it
pub number-blank : (g : Gathered) (n : Digits) (after : Line) (b : ℕ) → is_blank b ≡ true
    → after.place ≡ Gap → after.returned ≡ false → after.fields ≡ with_field g n.is_number n.value
    → (rest : List ℕ) → line_with after rest ≡ line_with (in_field g n) (b ∷ rest)
number-blank g n after b blank gap plain added rest =
    plain-more (in_field g n) after b rest (blank-no_return b blank) refl plain
    (λ more. rw (gap, added) (field-blank g n after.digits b more blank))
