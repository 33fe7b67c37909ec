use Rattle.std.proofs.Common.{add-one}
use Rattle.walk_model.proofs.BeginningLaws.{length-walks_at, walks_at-get}
use Rattle.walk_model.proofs.results.Finished.walk.Goals as goal

pub entries_of-requires : goal.entries_of-requires
entries_of-requires c = record {
  begins = rw (c.as_slice.ensures.value, c.as_slice-2.ensures.value) c.self.invariant;
  within = rw c.as_slice-2.ensures.value (rw (← c.self.view_is, length-walks_at) at c.requires);
}

pub returns : goal.returns
returns c =
    let low = rw (← c.self.view_is, length-walks_at) at c.requires in
    rw (c.entries_of.ensures, c.as_slice.ensures.value, c.as_slice-2.ensures.value, ← c.self.view_is, add-one)
    (walks_at-get c.self.inside.entries.items c.self.inside.begins.items c.args.i low)
