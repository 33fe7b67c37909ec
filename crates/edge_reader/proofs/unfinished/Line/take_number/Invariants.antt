use Rattle.std.proofs.Common.{◌≡◌, ℕ, ◌-◌, ◌<◌, ◌≤◌, Bool, true, List, ◌++◌, length, drop}
use Rattle.edge_reader.specs.declared.numbers.Digits.{Digits}
use Rattle.edge_reader.specs.Lines.{lines_in}
use Rattle.edge_reader.specs.Taken.{lines_with}
use Rattle.edge_reader.proofs.ByteLemmas.{in_field}
use Rattle.edge_reader.proofs.unfinished.Line.take_number.Given as goal

abbrev pub invariant-digits : goal.invariant-digits
invariant-digits l = record {
  onward : l.at < l.next;
  within : l.next ≤ length l.piece;
  low : l.value ≤ 4294967296;
  taken : (digits : Digits) → digits.value ≡ l.value → digits.is_number ≡ true → (undirected : Bool) (number room : ℕ) (whole : Bool) (text : List ℕ) →
      lines_with undirected number room l.self (lines_in whole (drop l.at l.piece ++ text))
      ≡ lines_with undirected number room (in_field l.self.fields digits) (lines_in whole (drop l.next l.piece ++ text));
}

abbrev pub decreases-digits : goal.decreases-digits
decreases-digits l = length l.piece - l.next
