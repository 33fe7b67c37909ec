-- Why there is no graph of a file.
use Rattle.std.specs.Prelude.{ℕ, Bool}
use Rattle.walk_io.specs.Causes.{Rose}
use Rattle.walk_io.specs.Files.{Told, IfRead}
use Rattle.walk_model.specs.declared.faults.LineFault.{LineFault}
use Rattle.edge_reader.specs.GraphFile.{graph_of, IsFault}
use Rattle.walk_top.specs.declared.files.GraphFault.{GraphFault}
use Rattle.walk_top.specs.declared.files.GraphFault.TheVariants.{Read, Refused}
use Rattle.walk_top.specs.Verdicts.{most_limits}

-- a graph's file is refused for what it holds, as far as that is told, or there was no memory
abbrev pub IsRefusedFor : Bool → Told → LineFault → Type 0
IsRefusedFor undirected told f = IfRead told (λ all. IsFault f (graph_of undirected most_limits all))

-- a graph's file can't be read, or it is refused
abbrev pub IsGraphFault : Bool → Told → ℕ → ℕ → GraphFault → Type 0
IsGraphFault undirected told before now Read = Rose before now
IsGraphFault undirected told before now (Refused f) = IsRefusedFor undirected told f
