use Rattle.std.proofs.Common.{refl}
use Rattle.walk_programme.specs.Table.{values_of}
use Rattle.walk_programme.proofs.FaultLemmas.{fault-err, fault-then, fault-exit}
use Rattle.walk_programme.proofs.values.read_values.Goals as goal

pub returns-in_err-length-clause-fault : goal.returns-in_err-length-clause-fault
unfolding values_of
returns-in_err-length-clause-fault c =
    fault-exit c.from_residual.result c.in_err-length.field-0.0 _ c.from_residual.ensures.1
    (fault-err c.in_err-length.field-0.0 _ (rw (← c.in_err-length.ensures.value) refl))

pub returns-in_err-walkers-clause-fault : goal.returns-in_err-walkers-clause-fault
unfolding values_of
returns-in_err-walkers-clause-fault c =
    fault-exit c.from_residual-in_err-walkers.result c.in_err-walkers.field-0.0 _ c.from_residual-in_err-walkers.ensures.1
    (fault-err c.in_err-walkers.field-0.0 _ (rw (← c.in_ok-length.ensures.value, ← c.in_err-walkers.ensures.value) refl))

pub returns-in_err-from-clause-fault : goal.returns-in_err-from-clause-fault
unfolding values_of
returns-in_err-from-clause-fault c =
    fault-exit c.from_residual-in_err-from.result c.in_err-from.field-0.0 _ c.from_residual-in_err-from.ensures.1
    (fault-err c.in_err-from.field-0.0 _ (rw (← c.in_ok-length.ensures.value, ← c.in_ok-walkers.ensures.value, ← c.in_err-from.ensures) refl))

pub returns-in_err-weighted-clause-fault : goal.returns-in_err-weighted-clause-fault
unfolding values_of
returns-in_err-weighted-clause-fault c =
    fault-exit c.from_residual-in_err-weighted.result c.in_err-weighted.field-0.0 _ c.from_residual-in_err-weighted.ensures.1
    (fault-err c.in_err-weighted.field-0.0 _ (rw (← c.in_ok-length.ensures.value, ← c.in_ok-walkers.ensures.value, ← c.in_ok-from.ensures, ← c.in_err-weighted.ensures) refl))

pub returns-in_err-undirected-clause-fault : goal.returns-in_err-undirected-clause-fault
unfolding values_of
returns-in_err-undirected-clause-fault c =
    fault-exit c.from_residual-in_err-undirected.result c.in_err-undirected.field-0.0 _ c.from_residual-in_err-undirected.ensures.1
    (fault-err c.in_err-undirected.field-0.0 _ (rw (← c.in_ok-length.ensures.value, ← c.in_ok-walkers.ensures.value, ← c.in_ok-from.ensures, ← c.in_ok-weighted.ensures, ← c.in_err-undirected.ensures) refl))

pub returns-in_err-retries-clause-fault : goal.returns-in_err-retries-clause-fault
unfolding values_of
returns-in_err-retries-clause-fault c =
    fault-exit c.from_residual-in_err-retries.result c.in_err-retries.field-0.0 _ c.from_residual-in_err-retries.ensures.1
    (fault-err c.in_err-retries.field-0.0 _ (rw (← c.in_ok-length.ensures.value, ← c.in_ok-walkers.ensures.value, ← c.in_ok-from.ensures, ← c.in_ok-weighted.ensures, ← c.in_ok-undirected.ensures, ← c.in_err-retries.ensures.value) refl))

pub returns-in_err-stop-clause-fault : goal.returns-in_err-stop-clause-fault
unfolding values_of
returns-in_err-stop-clause-fault c =
    fault-exit c.from_residual-in_err-stop.result c.in_err-stop.field-0.0 _ c.from_residual-in_err-stop.ensures.1
    (fault-err c.in_err-stop.field-0.0 _ (rw (← c.in_ok-length.ensures.value, ← c.in_ok-walkers.ensures.value, ← c.in_ok-from.ensures, ← c.in_ok-weighted.ensures, ← c.in_ok-undirected.ensures, ← c.in_ok-retries.ensures.value, ← c.in_err-stop.ensures.value) refl))

pub returns-in_err-restart-clause-fault : goal.returns-in_err-restart-clause-fault
unfolding values_of
returns-in_err-restart-clause-fault c =
    fault-exit c.from_residual-in_err-restart.result c.in_err-restart.field-0.0 _ c.from_residual-in_err-restart.ensures.1
    (fault-err c.in_err-restart.field-0.0 _ (rw (← c.in_ok-length.ensures.value, ← c.in_ok-walkers.ensures.value, ← c.in_ok-from.ensures, ← c.in_ok-weighted.ensures, ← c.in_ok-undirected.ensures, ← c.in_ok-retries.ensures.value, ← c.in_ok-stop.ensures.value, ← c.in_err-restart.ensures.value) refl))

pub returns-in_err-scheme-clause-fault : goal.returns-in_err-scheme-clause-fault
unfolding values_of
returns-in_err-scheme-clause-fault c =
    fault-exit c.from_residual-in_err-scheme.result c.in_err-scheme.field-0.0 _ c.from_residual-in_err-scheme.ensures.1
    (rw (← c.in_ok-length.ensures.value, ← c.in_ok-walkers.ensures.value, ← c.in_ok-from.ensures, ← c.in_ok-weighted.ensures, ← c.in_ok-undirected.ensures, ← c.in_ok-retries.ensures.value, ← c.in_ok-stop.ensures.value, ← c.in_ok-restart.ensures.value) (fault-then c.in_err-scheme.field-0.0 _ _ c.in_err-scheme.ensures.fault))

pub returns-in_err-p-clause-fault : goal.returns-in_err-p-clause-fault
unfolding values_of
returns-in_err-p-clause-fault c =
    fault-exit c.from_residual-in_err-p.result c.in_err-p.field-0.0 _ c.from_residual-in_err-p.ensures.1
    (fault-err c.in_err-p.field-0.0 _ (rw (← c.in_ok-length.ensures.value, ← c.in_ok-walkers.ensures.value, ← c.in_ok-from.ensures, ← c.in_ok-weighted.ensures, ← c.in_ok-undirected.ensures, ← c.in_ok-retries.ensures.value, ← c.in_ok-stop.ensures.value, ← c.in_ok-restart.ensures.value, c.in_ok-scheme.ensures.value, ← c.in_err-p.ensures.value) refl))

pub returns-in_err-q-clause-fault : goal.returns-in_err-q-clause-fault
unfolding values_of
returns-in_err-q-clause-fault c =
    fault-exit c.from_residual-in_err-q.result c.in_err-q.field-0.0 _ c.from_residual-in_err-q.ensures.1
    (fault-err c.in_err-q.field-0.0 _ (rw (← c.in_ok-length.ensures.value, ← c.in_ok-walkers.ensures.value, ← c.in_ok-from.ensures, ← c.in_ok-weighted.ensures, ← c.in_ok-undirected.ensures, ← c.in_ok-retries.ensures.value, ← c.in_ok-stop.ensures.value, ← c.in_ok-restart.ensures.value, c.in_ok-scheme.ensures.value, ← c.in_ok-p.ensures.value, ← c.in_err-q.ensures.value) refl))

pub returns-clause-values : goal.returns-clause-values
unfolding values_of
returns-clause-values c = rw (← c.in_ok-length.ensures.value, ← c.in_ok-walkers.ensures.value, ← c.in_ok-from.ensures, ← c.in_ok-weighted.ensures, ← c.in_ok-undirected.ensures, ← c.in_ok-retries.ensures.value, ← c.in_ok-stop.ensures.value, ← c.in_ok-restart.ensures.value, c.in_ok-scheme.ensures.value, ← c.in_ok-p.ensures.value, ← c.in_ok-q.ensures.value) refl
