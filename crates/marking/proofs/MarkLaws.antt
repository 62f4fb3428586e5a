-- The laws of marking: what it comes to; which refusal is answered, and when; the clauses of the contracts.
-- Assumes nothing.
use Rattle.std.specs.Prelude.{Result, Ok, Err}
use mathlib.Core.Path.{◌≡◌, refl, sym, ap, ◌∙◌, subst}
use mathlib.Core.List.{List}
use mathlib.Core.Logic.{◌⊎◌, inl, inr, ◌↔◌}
use Prim.Native.Nat.{ℕ}
use Rattle.fields.specs.declared.refusal.Code.{Code}
use Rattle.fields.specs.declared.refusal.Refusal.{Refusal}
use Rattle.fields.proofs.RefusalLaws.{never_zero}
use Rattle.fields.specs.Order.{Answer, First, answer_code}
use Rattle.fields.proofs.OrderLaws.{clash}
use Rattle.rules.specs.Method.{method_number}
use Rattle.rules.specs.declared.method.Method.TheVariants.{D100}
use Rattle.entries.specs.declared.sheet.Sheet.{Sheet}
use Rattle.std.specs.Result.{ForOk}
use Rattle.sheet.specs.Complete.{entries_of, Valid}
use Rattle.entries.specs.declared.complete.Entries.{Entries}
use Rattle.sheet.specs.Reading.{read_in, read_code, unless_code, completed_from, read_completed}
use Rattle.sheet.proofs.AnswerLaws.{read_code_lem}
use Rattle.sheet.proofs.CompleteLaws.{entries_are, completed_valid}
use Rattle.claims.specs.Judging.{judge_order, unless_refused, judged, judged_completed}
use Rattle.claims.specs.Meets.{Justified}
use Rattle.reports.specs.declared.report.Judgement.{Judgement}
use Rattle.claims.proofs.JudgeLaws.{judged_exactly, judged_completed_lem, judged_refused}
use Rattle.claims.proofs.ClaimLaws.{completed_justified, judge_code_lem}
use Rattle.marking.specs.Marking.{marked, mark_code}

-- ---- what it comes to

-- the number of the method that bytes are judged by
abbrev by_d100 : ℕ
by_d100 = method_number D100

-- of the sheet that was read, and of no other
read_valid : (b : List ℕ) → ForOk (read_completed b) (λ e. (e ≡ entries_of (read_in b).sheet) × Valid e)
unfolding read_completed
read_valid b e k = go (read_in b).answer k
  where
    s : Sheet
    s = (read_in b).sheet

    go : (a : Answer) → completed_from a s ≡ Ok e → (e ≡ entries_of s) × Valid e
    go (Ok u) k = (entries_are s refl k, completed_valid s refl k)
    go (Err r) k = clash k

pub bytes_valid : (b : List ℕ) {c : Result Entries Refusal} → c ≡ read_completed b → ForOk c Valid
bytes_valid b q e k = (read_valid b e (sym q ∙ k)).1

pub marked_completed : (b : List ℕ) → marked b ≡ judged_completed by_d100 (read_completed b)
unfolding marked read_completed
marked_completed b = go (read_in b).answer
  where
    s : Sheet
    s = (read_in b).sheet

    go : (a : Answer) → unless_refused a (judged by_d100 s) ≡ judged_completed by_d100 (completed_from a s)
    go (Ok u) = judged_completed_lem by_d100 s
    go (Err r) = sym (judged_refused D100 r)

-- ---- WHICH REFUSAL IS ANSWERED, AND WHEN: as reading is, then as judging is

pub marked_exactly : (b : List ℕ) (r : Refusal)
    → ((marked b).answer ≡ Err r)
    ↔ (((read_in b).answer ≡ Err r) ⊎ (((read_in b).answer ≡ Ok tt) × First (judge_order by_d100 (read_in b).sheet) r))
unfolding marked
marked_exactly b r = go (read_in b).answer (judged_exactly by_d100 (read_in b).sheet r)
  where
    s : Sheet
    s = (read_in b).sheet

    go : (a : Answer) → ((judged by_d100 s).answer ≡ Err r) ↔ First (judge_order by_d100 s) r
        → ((unless_refused a (judged by_d100 s)).answer ≡ Err r) ↔ ((a ≡ Err r) ⊎ ((a ≡ Ok tt) × First (judge_order by_d100 s) r))
    go (Ok u) f = ((λ e. inr (refl, f.0 e)), back)
      where
        back : (◌≡◌ {A = Answer} (Ok (tt {0})) (Err r)) ⊎ ((◌≡◌ {A = Answer} (Ok (tt {0})) (Ok (tt {0}))) × First (judge_order by_d100 s) r) → (judged by_d100 s).answer ≡ Err r
        back (inl e) = clash (sym e)
        back (inr e) = f.1 e.1
    go (Err q) f = (inl, back)
      where
        back : (◌≡◌ {A = Answer} (Err q) (Err r)) ⊎ ((◌≡◌ {A = Answer} (Err q) (Ok (tt {0}))) × First (judge_order by_d100 s) r) → ◌≡◌ {A = Answer} (Err q) (Err r)
        back (inl e) = e
        back (inr e) = clash e.0

-- ---- the clauses of the contract

answer_code_lem : (a : Answer) (j : Judgement) → answer_code (unless_refused a j).answer ≡ unless_code (answer_code a) (answer_code j.answer)
answer_code_lem (Ok u) j = refl
answer_code_lem (Err r) j = rw (never_zero r)

pub mark_code_lem : (b : List ℕ) → answer_code (marked b).answer ≡ mark_code b
unfolding marked mark_code
mark_code_lem b =
    answer_code_lem (read_in b).answer (judged by_d100 (read_in b).sheet)
    ∙ ap (λ (p : Code). unless_code p (answer_code (judged by_d100 (read_in b).sheet).answer)) (read_code_lem b)
    ∙ ap (λ (p : Code). unless_code (read_code b) p) (judge_code_lem by_d100 (read_in b).sheet)

pub mark_clauses : (b : List ℕ) {c : Result Entries Refusal} {j : Judgement} → c ≡ read_completed b → j ≡ judged_completed by_d100 c
    → (j ≡ marked b) × ((answer_code j.answer ≡ mark_code b) × Justified D100 (entries_of (read_in b).sheet) j)
mark_clauses b e f =
    let k = f ∙ ap (judged_completed by_d100) e in
    let m = k ∙ sym (marked_completed b) in (
      m,
      (
        ap (λ (j : Judgement). answer_code j.answer) m ∙ mark_code_lem b,
        subst (Justified D100 (entries_of (read_in b).sheet)) (sym k) (completed_justified (entries_of (read_in b).sheet) (read_completed b) (read_valid b) D100),
      ),
    )
