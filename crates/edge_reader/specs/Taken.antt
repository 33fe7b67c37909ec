-- The input that a reader has taken.
use Rattle.std.specs.Prelude.{ℕ, ◌+◌, ◌≡◌, nat_le, Bool, false, if◌then◌else◌, List, [], ◌∷◌, ◌++◌, length, take, Option, Some, None, Result, Ok, Err, IsOk}
use Rattle.walk_model.specs.declared.graph.Edge.{Edge}
use Rattle.walk_model.specs.declared.faults.LineFault.{LineFault}
use Rattle.edge_reader.specs.declared.limits.ReadLimits.{ReadLimits}
use Rattle.edge_reader.specs.declared.unfinished.Line.{Line}
use Rattle.edge_reader.specs.declared.progress.Progress.{Progress}
use Rattle.edge_reader.specs.declared.reader.EdgeReader.{EdgeReader}
use Rattle.edge_reader.specs.Lines.{lines_in}
use Rattle.edge_reader.specs.GraphFile.{after_line, edges_from, in_front, too_long, graph_in, IsFault}
use Rattle.edge_reader.specs.Unfinished.{line_with}

-- the edges of lines of which the first goes on an unfinished one
abbrev pub lines_with : Bool → ℕ → ℕ → Line → List (List ℕ) → Result (List Edge) LineFault
lines_with undirected number room line [] = Ok []
lines_with undirected number room line (rest ∷ lines) =
    after_line undirected number room (line_with line rest) (λ left. edges_from undirected (number + 1) left lines)

-- all edges, where this text follows
unfoldable pub edges_with : Bool → Progress → List ℕ → Result (List Edge) LineFault
edges_with whole p text = in_front p.edges.items (lines_with p.undirected p.number p.room p.line (lines_in whole text))

-- the same, where only so many bytes may follow
unfoldable pub within : ℕ → Bool → Progress → List ℕ → Result (List Edge) LineFault
within left whole p text =
    if nat_le (length text) left then edges_with whole p text else too_long (edges_with false p (take left text))

-- a fault, or else what is given
abbrev pub unless : Option LineFault → Result (List Edge) LineFault → Result (List Edge) LineFault
unless None given = given
unless (Some fault) given = Err fault

-- what a reader comes to where this text follows
abbrev pub answer : Bool → EdgeReader → List ℕ → Result (List Edge) LineFault
answer whole reader text = unless reader.fault (within reader.left whole reader.progress text)

-- the reader has taken this input: whatever follows, it comes to the graph of the two together
pub record Took (undirected : Bool) (limits : ReadLimits) (input : List ℕ) (reader : EdgeReader) : Type 0 where
  pub answers : (whole : Bool) (text : List ℕ) → answer whole reader text ≡ graph_in whole undirected limits (input ++ text)

-- the fault that a reader has met, which it answers from then on
abbrev pub met : EdgeReader → Option LineFault
met reader = reader.fault

-- what is answered is the first fault, or that there is none, unless there was no memory
abbrev pub Tells : {A : Type 0} → Result A LineFault → Result (List Edge) LineFault → Type 0
Tells (Ok _) graph = IsOk graph
Tells (Err fault) graph = IsFault fault graph
