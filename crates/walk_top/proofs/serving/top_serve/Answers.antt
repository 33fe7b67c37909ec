use Rattle.std.proofs.Common.{◌≤◌, refl, arith}
use Rattle.walk_model.specs.Status.{status_of}
use Rattle.walk_top.specs.Jobs.{texts}
use Rattle.walk_top.specs.Outcomes.{Call, cause_of}
use Rattle.walk_top.proofs.CauseLemmas.{status-of-cause}
use Rattle.walk_top.proofs.ServeCauses.{caused-refused, caused-complete, caused-written, caused-refusal, caused-lacking}
use Rattle.walk_top.proofs.serving.top_serve.Goals as goal

pub returns-in-Err-clause-refused : goal.returns-in-Err-clause-refused
returns-in-Err-clause-refused g c =
    let call : Call = record {
      words = texts c.args.words.now;
      told = g.F.Files.told c.args.files.now;
      reads = g.F.Files.faults c.args.files.now;
      reads_after = g.F.Files.faults c.serve.new.files;
      writes = g.K.Sink.faults c.args.out.now;
      writes_after = g.K.Sink.faults c.serve.new.out;
    } in
    λ two five.
    let low : status_of c.in-Err.fault ≤ 5 = omega arith in
    rw c.status.ensures (caused-refused call c.in-Err.fault (cause_of c.in-Err.fault) c.in-Err.ensures.cause (status-of-cause c.in-Err.fault) low)

pub returns-in-Err-clause-complete : goal.returns-in-Err-clause-complete
returns-in-Err-clause-complete g c =
    let call : Call = record {
      words = texts c.args.words.now;
      told = g.F.Files.told c.args.files.now;
      reads = g.F.Files.faults c.args.files.now;
      reads_after = g.F.Files.faults c.serve.new.files;
      writes = g.K.Sink.faults c.args.out.now;
      writes_after = g.K.Sink.faults c.serve.new.out;
    } in
    rw c.status.ensures (caused-complete call c.in-Err.fault (cause_of c.in-Err.fault) c.in-Err.ensures.cause (status-of-cause c.in-Err.fault))

pub returns-in-Err-clause-written : goal.returns-in-Err-clause-written
returns-in-Err-clause-written g c =
    let call : Call = record {
      words = texts c.args.words.now;
      told = g.F.Files.told c.args.files.now;
      reads = g.F.Files.faults c.args.files.now;
      reads_after = g.F.Files.faults c.serve.new.files;
      writes = g.K.Sink.faults c.args.out.now;
      writes_after = g.K.Sink.faults c.serve.new.out;
    } in
    rw c.status.ensures (caused-written call c.in-Err.fault (cause_of c.in-Err.fault) c.in-Err.ensures.cause (status-of-cause c.in-Err.fault))

pub returns-in-Err-clause-refusal : goal.returns-in-Err-clause-refusal
returns-in-Err-clause-refusal g c =
    let call : Call = record {
      words = texts c.args.words.now;
      told = g.F.Files.told c.args.files.now;
      reads = g.F.Files.faults c.args.files.now;
      reads_after = g.F.Files.faults c.serve.new.files;
      writes = g.K.Sink.faults c.args.out.now;
      writes_after = g.K.Sink.faults c.serve.new.out;
    } in
    rw c.status.ensures (caused-refusal call c.in-Err.fault (cause_of c.in-Err.fault) c.in-Err.ensures.cause (status-of-cause c.in-Err.fault))

pub returns-in-Err-clause-lacking : goal.returns-in-Err-clause-lacking
returns-in-Err-clause-lacking g c =
    let call : Call = record {
      words = texts c.args.words.now;
      told = g.F.Files.told c.args.files.now;
      reads = g.F.Files.faults c.args.files.now;
      reads_after = g.F.Files.faults c.serve.new.files;
      writes = g.K.Sink.faults c.args.out.now;
      writes_after = g.K.Sink.faults c.serve.new.out;
    } in
    rw c.status.ensures (caused-lacking call c.in-Err.fault (cause_of c.in-Err.fault) c.in-Err.ensures.cause (status-of-cause c.in-Err.fault))
