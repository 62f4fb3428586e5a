-- `complete::writing::write` meets its contract. Assumes nothing.
use mathlib.Core.Path.{◌∙◌, ap, sym}
use Prim.Native.Nat.{ℕ}
use Rattle.std.specs.Prelude.{Result}
use Rattle.fields.specs.declared.refusal.Refusal.{Refusal}
use Rattle.sheet.proofs.CompleteLaws.{completed_valid}
use Rattle.sheet.proofs.WriteLaws.{write_refused, write_complete, reply_is}
use Rattle.sheet.proofs.RoundTrip.{written_clauses}
use Rattle.fields.proofs.OrderLaws.{passed_on}
use Rattle.complete.proofs.writing.write.Goals as goal

pub write_entries-requires : goal.write_entries-requires
write_entries-requires c = completed_valid c.args.s c.of_sheet.ensures.value c.in_ok-of_sheet.was

pub returns-in_err-of_sheet : goal.returns-in_err-of_sheet
returns-in_err-of_sheet c =
    let a = c.args in
    let r = written_clauses a.s a.out.now
    (write_refused a.s a.out.now c.of_sheet.ensures.value c.in_err-of_sheet.was
    ∙ ap (λ (y : Result ℕ Refusal). record { answer = y; buffer = a.out.now }) (sym (passed_on _ _ c.from_residual.ensures.1))) in
    record { value = r.value; buffer = r.buffer; code = r.code; reads_back = r.reads_back }

pub returns : goal.returns
returns c =
    let a = c.args in
    let r = written_clauses a.s a.out.now
    (write_complete a.s a.out.now c.of_sheet.ensures.value c.in_ok-of_sheet.was
    ∙ reply_is c.write_entries.ensures.value c.write_entries.ensures.buffer) in
    record { value = r.value; buffer = r.buffer; code = r.code; reads_back = r.reads_back }
