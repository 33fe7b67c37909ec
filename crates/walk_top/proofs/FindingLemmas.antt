-- What is found step by step.
use Rattle.std.proofs.Common.{◌≡◌, ℕ, Bool, List, Option, Some, None, refl, sym, subst}
use Rattle.std.specs.Prelude.{Ok, Err}
use Rattle.walk_io.specs.Files.{Told, Unknown, Missing, Holds, IfRead}
use Rattle.walk_model.specs.declared.graph.Edge.{Edge}
use Rattle.walk_model.specs.declared.faults.LineFault.{LineFault}
use Rattle.walk_model.specs.declared.faults.WalkFault.{WalkFault}
use Rattle.edge_reader.specs.GraphFile.{graph_of}
use Rattle.walk_top.specs.Jobs.{Job}
use Rattle.walk_top.specs.Verdicts.{Finding, Found, Refused, Lacks, Untold, and_then, unless, job_found, contents_found, graph_found, most_limits, fault_of, MayBe, MayRefuse}

-- what may be found first, and then from there
pub and_then-maybe : {A B : Type 0} (m : Finding A) (later : A → Finding B) (x : A) (y : B) → MayBe m x
    → MayBe (later x) y → MayBe (and_then m later) y
and_then-maybe (Found z) later x y first next = subst (λ w. MayBe (later w) y) (sym first) next
and_then-maybe (Refused f) later x y first next = absurd first
and_then-maybe (Lacks name) later x y first next = absurd first
and_then-maybe Untold later x y first next = tt

-- what is refused after something was found
pub and_then-refused : {A B : Type 0} (m : Finding A) (later : A → Finding B) (x : A) (f : WalkFault) → MayBe m x
    → MayRefuse (later x) f → MayRefuse (and_then m later) f
and_then-refused (Found z) later x f first next = subst (λ w. MayRefuse (later w) f) (sym first) next
and_then-refused (Refused g) later x f first next = absurd first
and_then-refused (Lacks name) later x f first next = absurd first
and_then-refused Untold later x f first next = tt

-- what is refused at once
pub and_then-refused_first : {A B : Type 0} (m : Finding A) (later : A → Finding B) (f : WalkFault) → MayRefuse m f
    → MayRefuse (and_then m later) f
and_then-refused_first (Found z) later f first = absurd first
and_then-refused_first (Refused g) later f first = first
and_then-refused_first (Lacks name) later f first = absurd first
and_then-refused_first Untold later f first = tt

-- without a fault it is found
pub unless-none : {A : Type 0} (o : Option WalkFault) (x : A) → o ≡ None → MayBe (unless o x) x
unless-none o x none = subst (λ p. MayBe (unless p x) x) (sym none) refl

-- with a fault it is refused
pub unless-some : {A : Type 0} (o : Option WalkFault) (x : A) (f : WalkFault) → o ≡ Some f → MayRefuse (unless o x) f
unless-some o x f some = subst (λ p. MayRefuse (unless p x) f) (sym some) refl

-- the job of words that have one
pub job-found : (o : Option Job) (j : Job) → o ≡ Some j → MayBe (job_found o) j
job-found o j is = subst (λ w. MayBe (job_found w) j) (sym is) refl

-- what is found in a file that was read
pub read-may_be : {A : Type 0} (name : List ℕ) (t : Told) (later : List ℕ → Finding A) (x : A) → IfRead t (λ all. MayBe (later all) x)
    → MayBe (and_then (contents_found name t) later) x
read-may_be name Unknown later x read = tt
read-may_be name Missing later x read = absurd read
read-may_be name (Holds all) later x read = read

-- and what is refused
pub read-refused : {A : Type 0} (name : List ℕ) (t : Told) (later : List ℕ → Finding A) (f : WalkFault) → IfRead t (λ all. MayRefuse (later all) f)
    → MayRefuse (and_then (contents_found name t) later) f
read-refused name Unknown later f read = tt
read-refused name Missing later f read = absurd read
read-refused name (Holds all) later f read = read

-- a fact on what was read, from another one
pub read-fact : (t : Told) (P Q : List ℕ → Type 0) → ((all : List ℕ) → P all → Q all) → IfRead t P → IfRead t Q
read-fact Unknown P Q more read = tt
read-fact Missing P Q more read = absurd read
read-fact (Holds all) P Q more read = more all read

-- the graph of a file that was read
pub graph-may_be : (u : Bool) (name : List ℕ) (t : Told) (es : List Edge) → IfRead t (λ all. graph_of u most_limits all ≡ Ok es)
    → MayBe (and_then (contents_found name t) (λ bytes. graph_found (graph_of u most_limits bytes))) es
graph-may_be u name t es read =
    read-may_be name t (λ bytes. graph_found (graph_of u most_limits bytes)) es
    (read-fact t (λ all. graph_of u most_limits all ≡ Ok es) (λ all. MayBe (graph_found (graph_of u most_limits all)) es)
    (λ all is. subst (λ r. MayBe (graph_found r) es) (sym is) refl) read)

-- and why it is refused
pub graph-refused : (u : Bool) (name : List ℕ) (t : Told) (f : LineFault) → IfRead t (λ all. graph_of u most_limits all ≡ Err f)
    → MayRefuse (and_then (contents_found name t) (λ bytes. graph_found (graph_of u most_limits bytes))) (fault_of f)
graph-refused u name t f read =
    read-refused name t (λ bytes. graph_found (graph_of u most_limits bytes)) (fault_of f)
    (read-fact t (λ all. graph_of u most_limits all ≡ Err f) (λ all. MayRefuse (graph_found (graph_of u most_limits all)) (fault_of f))
    (λ all is. subst (λ r. MayRefuse (graph_found r) (fault_of f)) (sym is) refl) read)
