use Rattle.std.proofs.Common.{codes, is_none, Err, if◌then◌else◌}
use Rattle.toml.specs.Data.{get_member}
use Rattle.toml.specs.View.{table_view}
use Rattle.walk_model.specs.declared.faults.Key.TheVariants.{Length}
use Rattle.walk_model.specs.declared.faults.PlanFault.TheVariants.{Missing}
use Rattle.walk_programme.specs.Faults.{and_then}
use Rattle.walk_programme.specs.Table.{values_of}
use Rattle.walk_programme.specs.Programme.{plan_of_table, plan_of_values}
use Rattle.walk_programme.proofs.plans.plan_of_table.Goals as goal

pub returns-in-Some-clause-fault : goal.returns-in-Some-clause-fault
unfolding plan_of_table
returns-in-Some-clause-fault c =
    let t = table_view c.args.table.now in
    rw (← c.in-Some.ensures) (c.unknown_key.ensures
    (if is_none (get_member (codes "length") t) then Err (Missing Length) else and_then (values_of t) plan_of_values))
