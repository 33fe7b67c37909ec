-- The job of words that were read.
use Rattle.std.specs.Prelude.{◌≤◌}
use Rattle.walk_top.specs.Jobs.{Job, Quick, Walk, Make, most_degree, most_length, most_made, most_parts, most_workers}
use Rattle.walk_top.specs.declared.words.MakeWords.{MakeWords}
use Rattle.walk_top.specs.declared.words.QuickWords.{QuickWords}
use Rattle.walk_top.specs.declared.words.WalkWords.{WalkWords}
use Rattle.walk_top.specs.declared.words.Words.{Words}
use Rattle.walk_top.specs.declared.words.Words.TheVariants as is

-- the job of each command's words
abbrev pub quick_of : QuickWords → Job
quick_of q = Quick q.graph.now q.seed q.length

abbrev pub walk_of : WalkWords → Job
walk_of w = Walk w.graph.now w.programme.now w.seed w.parts w.workers

abbrev pub make_of : MakeWords → Job
make_of m = Make m.vertices m.degree m.seed

abbrev pub job_of : Words → Job
job_of (is.Quick q) = quick_of q
job_of (is.Walk w) = walk_of w
job_of (is.Make m) = make_of m

-- the ranges of their numbers
abbrev pub IsQuickInRange : QuickWords → Type 0
IsQuickInRange q = q.length ≤ most_length

abbrev pub IsWalkInRange : WalkWords → Type 0
IsWalkInRange w = (1 ≤ w.parts) × (w.parts ≤ most_parts) × (1 ≤ w.workers) × (w.workers ≤ most_workers)

abbrev pub IsMakeInRange : MakeWords → Type 0
IsMakeInRange m = (1 ≤ m.vertices) × (m.vertices ≤ most_made) × (1 ≤ m.degree) × (m.degree ≤ most_degree)

abbrev pub IsInRange : Words → Type 0
IsInRange (is.Quick q) = IsQuickInRange q
IsInRange (is.Walk w) = IsWalkInRange w
IsInRange (is.Make m) = IsMakeInRange m
