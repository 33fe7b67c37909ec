-- Darts one after the other, and the scan after them.
use Rattle.std.proofs.Common.{◌≡◌, ℕ, suc, ◌+◌, ◌-◌, ◌*◌, ◌^◌, ◌<◌, ◌≤◌, Bool, true, false, List, [], ◌∷◌, length, map, sum, get_or, Option, Some, None, refl, ap, sym, ◌∙◌, arith}
use Rattle.std.specs.Prelude.{nat_lt, ◌==◌, if◌then◌else◌, option_map, slice_index, slice_get}
use Rattle.std.proofs.Math.Nat.{mul-le-mul_left, mul-le-mul_right}
use Rattle.std.proofs.lemmas.Option.{get_or_from_slice_get}
use Rattle.std.proofs.lemmas.List.{length-map, get_or-map}
use Rattle.std.proofs.lemmas.List.Sums.{sum_by-cons}
use Rattle.walk_model.specs.Lists.{first_above, products}
use Rattle.walk_model.specs.Words.{draw}
use Rattle.walk_model.specs.Dart.{Board, hit, scanned, darts, or_next}
use Rattle.walk_model.proofs.BoardLemmas.{darts-none}
use Rattle.walk_model.proofs.ColumnLemmas.{sum-le-times}
use Rattle.factor_table.specs.Factors.{greatest_of}
use Rattle.factor_table.proofs.FactorLaws.{greatest-above}
use Rattle.dart_envelope.specs.ClassBoards.{ClassBoard}
use Rattle.dart_envelope.specs.Scans.{AnswersAre, total_of, scan_of}
use Rattle.dart_envelope.specs.Verdicts.{settled}
use Rattle.dart_envelope.specs.declared.verdict.Verdict.TheVariants.{Need}

-- the first dart that hits decides
darts-hit : (n more : ℕ) (b : Board) (words : ℕ → ℕ) (place edge : ℕ) → n ≡ suc more
    → hit b (words place) ≡ Some edge → darts n b words place ≡ Some (edge, place + 1)
unfolding darts
darts-hit n more b words place edge e h = rw e (ap (λ o. or_next o place (darts more b words (place + 1))) h)

-- without darts there is the scan
darts-spent : (n : ℕ) (b : Board) (words : ℕ → ℕ) (place : ℕ) → n ≡ 0
    → darts n b words place ≡ scanned b words place
unfolding darts
darts-spent n b words place e = rw e refl

-- the class that was asked
pub class-is : (classes : List ℕ) (edge class : ℕ) → Some class ≡ slice_get classes edge → slice_index classes edge ≡ class
class-is classes edge class told = get_or_from_slice_get classes edge class 0 (sym told)

-- what a verdict settles to once the class is known
pub settled-need : (b : ClassBoard) (classes : List ℕ) (edge height class : ℕ) (under : Bool) → Some class ≡ slice_get classes edge
    → under ≡ nat_lt height (slice_index b.factors class) → (if under then Some edge else None) ≡ settled b classes (Need edge height)
unfolding settled
settled-need b classes edge height class under told is =
    rw (class-is classes edge class told, ← is) refl

-- the sum of weight times factor is bounded by the greatest factor
products-bound : (ws fs : List ℕ) (greatest : ℕ) → ((k : ℕ) → k < length fs → get_or fs k 0 ≤ greatest)
    → sum (products ws fs) ≤ sum ws * greatest
unfolding products
products-bound [] fs greatest low = omega arith
products-bound (w ∷ ws) [] greatest low = omega arith
products-bound (w ∷ ws) (f ∷ fs) greatest low =
    let here : w * f ≤ w * greatest = mul-le-mul_left w (low 0 (omega arith)) in
    let rest : sum (products ws fs) ≤ sum ws * greatest = products-bound ws fs greatest (λ k there. low (suc k) (omega (arith, there))) in
    let whole : sum (w * f ∷ products ws fs) ≡ w * f + sum (products ws fs) = sum_by-cons (λ x. x) (w * f) (products ws fs) in
    let all : sum (w ∷ ws) ≡ w + sum ws = sum_by-cons (λ x. x) w ws in
    rw (whole, all) (omega (arith, here, rest))

-- the factor of an edge is that of its class
pub factor-at : (fs classes : List ℕ) (edge : ℕ) → edge < length classes
    → get_or (map (slice_index fs) classes) edge 0 ≡ get_or fs (get_or classes edge 0) 0
factor-at fs classes edge there = get_or-map (slice_index fs) classes edge 0 0 there

-- the closure of a scan answers the factors of the classes
pub answers-are : (answers : ℕ → ℕ → Type 0) (given ws bs fs classes : List ℕ) → given ≡ ws → bs ≡ fs → length classes ≡ length ws
    → ((edge factor : ℕ) → answers edge factor → factor ≡ slice_index bs (slice_index classes edge))
    → AnswersAre answers (length given) (map (slice_index fs) classes)
answers-are answers given ws bs fs classes same factors long each =
    let size : length (map (slice_index fs) classes) ≡ length given =
    length-map classes (slice_index fs) ∙ long ∙ ap (λ (l : List ℕ). length l) (sym same) in
    record {
      long = size;
      each = λ edge factor low said.
          (let there : edge < length classes = (let e = length-map classes (slice_index fs) in omega (arith, low, size, e)) in
          each edge factor said ∙ ap (λ (l : List ℕ). slice_index l (slice_index classes edge)) factors ∙ sym (factor-at fs classes edge there));
    }

-- the scan of a row fits
pub total-fits : (ws fs classes : List ℕ) → length ws * sum ws * greatest_of fs ≤ 2 ^ 62
    → ((edge : ℕ) → edge < length classes → get_or classes edge 0 < length fs)
    → total_of ws (map (slice_index fs) classes) ≤ 2 ^ 62
total-fits ws fs classes fits below =
    let bound : sum (products ws (map (slice_index fs) classes)) ≤ sum ws * greatest_of fs =
    products-bound ws (map (slice_index fs) classes) (greatest_of fs)
    (λ k there. (let inside : k < length classes = rw (length-map classes (slice_index fs)) at there in
    rw (factor-at fs classes k inside) (greatest-above fs (get_or classes k 0) 0 (below k inside)))) in
    let times : sum ws * greatest_of fs ≤ length ws * sum ws * greatest_of fs = mul-le-mul_right (greatest_of fs) (sum-le-times ws) in
    omega (arith, bound, times, fits)

-- the scan of a row that has something
pub scanned-some : (b : Board) (words : ℕ → ℕ) (place z next total : ℕ) (o : Option ℕ) → total ≡ total_of b.weights b.factors
    → (total == 0) ≡ false → (z, next) ≡ draw total words place → o ≡ scan_of b.weights b.factors z
    → option_map (λ edge. (edge, next)) o ≡ scanned b words place
unfolding scanned scan_of
scanned-some b words place z next total o whole some drawn is =
    let heavy : (total_of b.weights b.factors == 0) ≡ false = rw whole at some in
    let found : o ≡ Some (first_above z (products b.weights b.factors)) = rw heavy at is in
    let drew : (z, next) ≡ draw (total_of b.weights b.factors) words place = rw whole at drawn in
    rw (heavy, found) (ap (λ (d : ℕ × ℕ). Some (first_above d.0 (products b.weights b.factors), d.1)) drew)

-- and of one that has nothing
pub scanned-none : (b : Board) (words : ℕ → ℕ) (place total : ℕ) → total ≡ total_of b.weights b.factors → (total == 0) ≡ true
    → None ≡ scanned b words place
unfolding scanned
scanned-none b words place total whole none =
    let light : (total_of b.weights b.factors == 0) ≡ true = rw whole at none in
    rw light refl

-- a dart among others that hits
pub dart-taken : (n i : ℕ) (b : Board) (words : ℕ → ℕ) (from place next edge : ℕ) → i < n
    → darts (n - i) b words place ≡ darts n b words from → Some edge ≡ hit b (words place) → next ≡ place + 1
    → Some (edge, next) ≡ darts n b words from
dart-taken n i b words from place next edge more rest hits step =
    let left : n - i ≡ suc (n - suc i) = omega arith in
    rw step (sym (darts-hit (n - i) (n - suc i) b words place edge left (sym hits)) ∙ rest)

-- a dart among others that hits nothing
pub dart-passed : (n i : ℕ) (b : Board) (words : ℕ → ℕ) (from place next : ℕ) → i < n
    → darts (n - i) b words place ≡ darts n b words from → None ≡ hit b (words place) → next ≡ place + 1
    → darts (n - (i + 1)) b words next ≡ darts n b words from
dart-passed n i b words from place next more rest misses step =
    let left : n - i ≡ suc (n - (i + 1)) = omega arith in
    rw step (sym (darts-none (n - i) (n - (i + 1)) b words place left (sym misses)) ∙ rest)

-- the scan after all darts
pub darts-scanned : (n i : ℕ) (b : Board) (words : ℕ → ℕ) (from place : ℕ) (o : Option (ℕ × ℕ)) → n ≤ i
    → darts (n - i) b words place ≡ darts n b words from → o ≡ scanned b words place → o ≡ darts n b words from
darts-scanned n i b words from place o spent rest is =
    let none : n - i ≡ 0 = omega arith in
    is ∙ sym (darts-spent (n - i) b words place none) ∙ rest
