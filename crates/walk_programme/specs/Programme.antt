-- The plan of a programme, or its first fault.
use Rattle.std.specs.Prelude.{ℕ, ◌&&◌, ◌||◌, ◌≤◌, IfSome, if◌then◌else◌, List, codes, Option, Some, None, is_some, is_none, unwrap_or, Result, Ok, Err}
use Rattle.std.specs.Option.{ok_or}
use Rattle.std.specs.Str.{is_utf8}
use Rattle.toml.specs.Data.{Members, get_member}
use Rattle.toml.specs.Parse.{parse_document}
use Rattle.walk_model.specs.Ratio.{Ratio}
use Rattle.walk_model.specs.Settings.{Settings}
use Rattle.walk_model.specs.declared.programme.StartRule.{StartRule}
use Rattle.walk_model.specs.declared.programme.StartRule.TheVariants as start
use Rattle.walk_model.specs.declared.programme.Rule.{Rule}
use Rattle.walk_model.specs.declared.programme.Rule.TheVariants as rule
use Rattle.walk_model.specs.declared.faults.Key.TheVariants.{Length, From, Scheme}
use Rattle.walk_model.specs.declared.faults.PlanFault.{PlanFault}
use Rattle.walk_model.specs.declared.faults.PlanFault.TheVariants.{Text, UnknownKey, Missing, Clash}
use Rattle.walk_programme.specs.declared.values.Values.{Values}
use Rattle.walk_programme.specs.Faults.{and_then}
use Rattle.walk_programme.specs.Table.{least_unknown, values_of}

-- the fraction 1/1
abbrev pub one : Ratio
one = record { top = 1; bottom = 1 }

-- where the walkers start, by their number and a fixed start
abbrev pub start_of : Option ℕ → Option ℕ → StartRule
start_of None id = start.Each
start_of (Some walkers) None = start.Spread walkers
start_of (Some walkers) (Some id) = start.From walkers id

-- the rule of a scheme and two fractions
abbrev pub rule_of : Option (List ℕ) → Option Ratio → Option Ratio → Rule
rule_of (Some kinds) p q = rule.Scheme kinds
rule_of None None None = rule.Plain
rule_of None None (Some q) = rule.Node2vec one q
rule_of None (Some p) q = rule.Node2vec p (unwrap_or q one)

-- the plan of values that don't clash
abbrev pub settings : Values → Settings
settings v = record {
  weighted = v.weighted;
  undirected = v.undirected;
  length = v.length;
  start = start_of v.walkers v.from;
  retries = v.retries;
  stop = v.stop;
  restart = v.restart;
  rule = rule_of v.scheme v.p v.q;
}

-- the plan of values, or how they clash
unfoldable pub plan_of_values : Values → Result Settings PlanFault
plan_of_values v =
    if is_some v.from && is_none v.walkers then Err (Clash From)
    else if is_some v.scheme && (is_some v.p || is_some v.q) then Err (Clash Scheme)
    else Ok (settings v)

-- goes on, unless there is an unknown key
abbrev pub unless_unknown : {X : Type 0} → Option (List ℕ) → Result X PlanFault → Result X PlanFault
unless_unknown None later = later
unless_unknown (Some key) later = Err (UnknownKey key)

-- the plan of a table, or its first fault
unfoldable pub plan_of_table : Members → Result Settings PlanFault
plan_of_table t =
    unless_unknown (least_unknown t)
    (if is_none (get_member (codes "length") t) then Err (Missing Length) else and_then (values_of t) plan_of_values)

-- the table of a text that is a TOML document
unfoldable pub table_of : List ℕ → Option Members
table_of text = if is_utf8 text then parse_document text else None

-- the plan of a programme, or its first fault
unfoldable pub plan_of : List ℕ → Result Settings PlanFault
plan_of text = and_then (ok_or (table_of text) Text) plan_of_table

-- the ranges of what the keys hold
pub record IsInRange (v : Values) : Type 0 where
  pub length : v.length ≤ 1048576
  pub walkers : IfSome v.walkers (λ n. n ≤ 16777216)
  pub retries : v.retries ≤ 1000
  pub stop : v.stop.top ≤ v.stop.bottom
  pub restart : v.restart.top ≤ v.restart.bottom
  pub p : IfSome v.p (λ r. 1 ≤ r.top)
  pub q : IfSome v.q (λ r. 1 ≤ r.top)
