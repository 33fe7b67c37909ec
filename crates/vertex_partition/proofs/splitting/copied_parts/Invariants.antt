use Rattle.std.proofs.Common.{◌≡◌, ◌<◌, ℕ, length, get_or}
use Rattle.vertex_partition.specs.PartViews.{PartView, IsPart}
use Rattle.vertex_partition.proofs.splitting.copied_parts.Given as goal

abbrev pub invariant-loop-part : goal.invariant-loop-part
invariant-loop-part g l = record {
  count : length l.parts.items ≡ l.part;
  parts : (k : ℕ) (d : PartView) → k < l.part
      → IsPart (record { edges = l.rows.edges; vertices = l.rows.vertices }) l.weighted l.cuts.cuts k (get_or l.parts.items k d);
}
