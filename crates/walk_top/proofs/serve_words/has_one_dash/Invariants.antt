use Rattle.std.proofs.Common.{◌≡◌, ◌≤◌, take, map, codes}
use Rattle.std.specs.Prelude.{count_by}
use Rattle.std.specs.Str.{bytes_eq}
use Rattle.walk_top.proofs.serve_words.has_one_dash.Given as goal

abbrev pub invariant-loop-name : goal.invariant-loop-name
invariant-loop-name l = record {
  count : l.dashes ≡ count_by (λ n. bytes_eq n (codes "-")) (map (λ n. n.now) (take l.name-index l.names));
  few : l.dashes ≤ l.name-index;
}
