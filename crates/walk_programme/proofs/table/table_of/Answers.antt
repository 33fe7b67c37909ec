use Rattle.std.proofs.Common.{refl, inl, inr}
use Rattle.std.proofs.lemmas.Bool.{cases_Bool, iff_false}
use Rattle.std.proofs.lemmas.Str.{IsUtf8-from_is_utf8, is_utf8-from_IsUtf8}
use Rattle.std.specs.Str.{is_utf8}
use Rattle.toml.specs.Errors.{IsMemory}
use Rattle.walk_programme.specs.Programme.{table_of}
use Rattle.walk_programme.proofs.table.table_of.Goals as goal

pub returns-in-Ok-clause-table : goal.returns-in-Ok-clause-table
unfolding table_of
returns-in-Ok-clause-table c =
    let text = is_utf8-from_IsUtf8 c.args.text.now c.in-Ok.ensures.ok.0 in
    rw text c.in-Ok.ensures.ok.1

pub returns-in-Err-clause-fault : goal.returns-in-Err-clause-fault
unfolding table_of
returns-in-Err-clause-fault c =
    let failed : ¬ IsMemory c.in-Err.error = iff_false c.is_memory.ensures c.if-not-is_memory.true in
    elim (cases_Bool (is_utf8 c.args.text.now)) [
      | inl text ↦ rw (text, c.in-Err.ensures.refused failed (IsUtf8-from_is_utf8 c.args.text.now text)) refl
      | inr other ↦ rw other refl
    ]
