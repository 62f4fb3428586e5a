-- `complete::writing::write_entries` meets its contract. Assumes nothing.
use mathlib.Core.Path.{◌∙◌, ap, sym}
use native.Mathlib.Omega.{arith}
use Prim.Native.Nat.{ℕ}
use Rattle.std.specs.Prelude.{Result}
use Rattle.fields.specs.declared.refusal.Refusal.{Refusal}
use Rattle.fields.proofs.OrderLaws.{passed_on}
use Rattle.sheet.proofs.WriteLaws.{size_refused, size_passed, no_room_lem, stored_done, entries_clauses}
use Rattle.complete.proofs.writing.write_entries.Goals as goal

pub returns-in_err-size_flaw : goal.returns-in_err-size_flaw
returns-in_err-size_flaw c =
    let a = c.args in
    let r = entries_clauses (size_refused a.e a.out.now c.size_flaw.ensures.value c.in_err-size_flaw.was
    ∙ ap (λ (y : Result ℕ Refusal). record { answer = y; buffer = a.out.now }) (sym (passed_on _ _ c.from_residual.ensures.1))) in
    record { value = r.0; buffer = r.1 }

pub returns-then-out-size : goal.returns-then-out-size
returns-then-out-size c =
    let a = c.args in
    let d = size_passed a.e a.out.now c.size_flaw.ensures.value c.in_ok-size_flaw.was in
    let r = entries_clauses (no_room_lem a.e a.out.now d (omega (arith, c.if-out-size.true))) in
    record { value = r.0; buffer = r.1 }

pub returns : goal.returns
returns c =
    let a = c.args in
    let d = size_passed a.e a.out.now c.size_flaw.ensures.value c.in_ok-size_flaw.was in
    let r = entries_clauses (stored_done a.e a.out.now c.requires d c.if-out-size.false c.put_prefix.ensures c.put_tail_head.ensures c.put_courses.ensures) in
    record { value = r.0; buffer = r.1 }
