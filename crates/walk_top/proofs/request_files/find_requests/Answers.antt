use Rattle.std.proofs.Common.{◌≡◌, ◌<◌, ◌≤◌, ◌+◌, ◌^◌, ◌∷◌, [], ◌++◌, ℕ, List, Option, Vec, length, map, refl, ap, sym, subst, ◌∙◌, arith, length-append}
use Rattle.std.specs.declared.alloc.Global.{Global}
use Rattle.std.proofs.lemmas.List.{map-append}
use Rattle.std.proofs.lemmas.List.Elements.{All-append}
use Rattle.walk_io.specs.Files.{Told}
use Rattle.request_reader.specs.declared.requests.Request.{Request}
use Rattle.request_replies.specs.Answered.{AreAllShort, AreShort, lists_of}
use Rattle.walk_top.specs.Verdicts.{MayBe}
use Rattle.walk_top.specs.Stages.{Stage}
use Rattle.walk_top.specs.ServeVerdicts.{named_requests}
use Rattle.walk_top.proofs.StageLemmas.{in-wider}
use Rattle.walk_top.proofs.ServeLemmas.{goes-fault, goes-next, name-among, short-one}
use Rattle.walk_top.proofs.request_files.find_requests.Goals as goal

pub returns-in-Err-clause-fault : goal.returns-in-Err-clause-fault
returns-in-Err-clause-fault g c =
    let told : List ℕ → Told = g.F.Files.told c.args.files.now in
    let kept : g.F.Files.told c.files.files ≡ told = λ i n. c.files.invariant.kept n i in
    let names : List (List ℕ) = map (λ n. n.now) c.args.names.now in
    let name : List ℕ = c.name_at-name.result.now in
    let s : Stage = record {
      names = name ∷ [];
      told = g.F.Files.told c.files.files;
      reads = g.F.Files.faults c.files.files;
      reads_after = g.F.Files.faults c.file_requests.new.files;
    } in
    let t : Stage = record {
      names = names;
      told = told;
      reads = g.F.Files.faults c.args.files.now;
      reads_after = g.F.Files.faults c.file_requests.new.files;
    } in
    goes-fault told names c.files.k name (lists_of c.files.all.items) t c.in-Err.fault c.name_at-name.ensures refl c.files.invariant.goes_on
    (in-wider (λ x. named_requests x name) s t c.in-Err.fault (record {
      told = kept;
      names = name-among names c.files.k name _ c.name_at-name.ensures;
      before = c.files.invariant.later;
      after = λ n. omega arith;
    }) c.in-Err.ensures.fault)

pub files-preserved : goal.files-preserved
files-preserved g c =
    let told : List ℕ → Told = g.F.Files.told c.args.files.now in
    let kept : g.F.Files.told c.files.files ≡ told = λ i n. c.files.invariant.kept n i in
    let names : List (List ℕ) = map (λ n. n.now) c.args.names.now in
    let name : List ℕ = c.name_at-name.result.now in
    let all : List (Vec (Option Request) Global) = c.files.all.items in
    let one : Vec (Option Request) Global = c.in-Ok.requests in
    let more : c.push.new.self.items ≡ all ++ one ∷ [] = c.in-Ok-push.ensures.items in
    record {
      count = ap length more ∙ length-append all (one ∷ []) ∙ ap (λ n. n + 1) c.files.invariant.count;
      short = subst AreAllShort (sym more)
          (All-append (λ (f : Vec (Option Request) Global). (length f.items < 2 ^ 63) × AreShort f.items) all (one ∷ []) c.files.invariant.short
          (short-one one c.in-Ok.ensures.few c.in-Ok.ensures.steps));
      goes_on = goes-next told names c.files.k name (lists_of all) (lists_of c.push.new.self.items) one.items c.name_at-name.ensures
          (subst (λ (t : List ℕ → Told). MayBe (named_requests t name) one.items) kept c.in-Ok.ensures.requests)
          (ap lists_of more ∙ map-append (λ (f : Vec (Option Request) Global). f.items) all (one ∷ [])) c.files.invariant.goes_on;
      kept = λ n. c.file_requests.ensures.kept n ∙ c.files.invariant.kept n;
      later = λ n. (let a = c.file_requests.ensures.later n in let b = c.files.invariant.later n in omega arith);
    }
