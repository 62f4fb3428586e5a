-- The laws of judging: what it comes to, by what the sheet holds; which refusal is answered, and when.
-- Assumes nothing.
use Rattle.std.specs.Prelude.{Result, Ok, Err}
use mathlib.Core.Path.{◌≡◌, refl, sym, ap, ◌∙◌, subst}
use mathlib.Core.Bool.{Bool, true, false, not, cond, true≢false}
use mathlib.Core.List.{List, [], ◌∷◌, ◌++◌}
use mathlib.Core.Logic.{◌↔◌}
use Prim.Native.Nat.{ℕ, ◌≤◌, ◌<◌}
use native.Mathlib.Omega.{arith}
use lib.Dec.{T}
use borrow.Author.Tests.{lt-ltb, le-ltb}
use Rattle.fields.specs.Refusal.{plain}
use Rattle.fields.specs.declared.refusal.Refusal.{Refusal}
use Rattle.fields.specs.declared.refusal.Refusal.TheVariants.{Unreachable, WaterAboveShell, BadMethod}
use Rattle.fields.specs.Order.{Answer, Condition, ◌when◌, first_of, reply_unless, First, answer_code, codes}
use Rattle.fields.proofs.OrderLaws.{clash, first_exactly, reply_given, reply_refused}
use Rattle.rules.specs.Method.{method_number, is_method, other_method, method_of, chosen_method}
use Rattle.rules.specs.declared.method.Method.{Method}
use Rattle.rules.proofs.MethodLaws.{is_method_lem, method_of_lem, other_exactly, chosen_exactly, refused_is}
use Rattle.entries.specs.declared.sheet.Sheet.{Sheet}
use Rattle.sheet.specs.Steps.{reachable}
use Rattle.sheet.specs.Runs.{LeftByRun}
use Rattle.sheet.specs.Complete.{incomplete, entries_of, entries_in, completed_of, is_thirty, order_after}
use Rattle.entries.specs.declared.complete.Entries.{Entries}
use Rattle.sheet.proofs.CompleteLaws.{not_thirty, complete_first, entries_are}
use Rattle.sheet.proofs.AnswerLaws.{never_answered, thirty_first}
use Rattle.sheet.proofs.RunLaws.{left_exactly}
use Rattle.claims.specs.Judging.{water_above, judge_order, report_with, report_on, refused_for, unless_refused, judged, completed_order, judged_completed, report_for, report_by}
use Rattle.reports.specs.declared.report.Report.{Report}
use Rattle.reports.specs.declared.report.Judgement.{Judgement}

-- ---- what judging comes to

-- the judgement, by the report alone
module _ (n : ℕ) (c : Result Entries Refusal) where
  abbrev given : Report
  given = report_with (method_of n) (entries_in c)

  pub with_report : {r : Report} → report_for n c ≡ Ok r → record { answer = Ok tt; report = r } ≡ judged_completed n c
  unfolding report_for judged_completed
  with_report e = let k = reply_given given (first_of (completed_order n c)) e in rw (k.0, k.1) refl

  pub without_report : {r : Refusal} → report_for n c ≡ Err r → refused_for r ≡ judged_completed n c
  unfolding report_for judged_completed
  without_report {r} e = rw ((reply_refused given (first_of (completed_order n c)) r).0 e) refl

-- of the entries of a complete sheet
module _ (method : Method) (e : Entries) where
  pub judge_above : e.height < e.tank.level → Err WaterAboveShell ≡ report_by method e
  unfolding report_by
  judge_above l = rw (lt-ltb _ _ l)

  pub judge_done : e.tank.level ≤ e.height → Ok (report_with method e) ≡ report_by method e
  unfolding report_by
  judge_done l = rw (le-ltb _ _ l)

-- by what a sheet is asked first, and the method with a number
module _ (n : ℕ) where
  pub by_thirty : Err Unreachable ≡ report_for n (Err Unreachable)
  unfolding report_for
  by_thirty = refl

  module _ {m : Method} (k : chosen_method n ≡ Ok m) where
    own : (n ≡ method_number m) × (is_method n ≡ true)
    own = let e = (chosen_exactly n m).0 k in (e, ap is_method e ∙ is_method_lem m)

    pub by_refused : (r : Refusal) → Err r ≡ report_for n (Err r)
    unfolding report_for
    by_refused r = rw own.1 (go (is_thirty r))
      where
        v : Report
        v = report_with (method_of n) (entries_in (Err r))

        go : (b : Bool) → ◌≡◌ {A = Result Report Refusal} (Err r) (reply_unless (first_of (cond b [] ((BadMethod when false) ∷ []) ++ (r when true) ∷ [])) v)
        go true = refl
        go false = refl

    pub by_entries : (e : Entries) → report_by m e ≡ report_for n (Ok e)
    unfolding report_for report_by
    by_entries e = rw (own.1, own.0, method_of_lem m) refl

  module _ {q : Refusal} (k : chosen_method n ≡ Err q) where
    pub by_other : (r : Refusal) → (r ≡ Unreachable → ⊥) → Err q ≡ report_for n (Err r)
    unfolding report_for
    by_other r h = let f = refused_is n k in rw (f.1, f.0, not_thirty r h) refl

    pub by_other_entries : (e : Entries) → Err q ≡ report_for n (Ok e)
    unfolding report_for
    by_other_entries e = let f = refused_is n k in rw (f.1, f.0) refl

-- beside a refusal, by a method's own number
pub judged_refused : (m : Method) (r : Refusal) → judged_completed (method_number m) (Err r) ≡ refused_for r
judged_refused m r =
    let n = method_number m in
    sym (without_report n (Err r) (sym (by_refused n ((chosen_exactly n m).1 refl) r)))

pub judged_completed_lem : (n : ℕ) (s : Sheet) → judged n s ≡ judged_completed n (completed_of s)
unfolding judged judged_completed
judged_completed_lem n s =
    ap (λ (a : Answer). unless_refused a (report_on (method_of n) e)) (complete_first s (other_method n ∷ []) (water_above e ∷ []))
    ∙ go (completed_of s) refl (is_method n)
  where
    e : Entries
    e = entries_of s

    -- by whether the number is a method's
    other : Bool → Condition
    other b = BadMethod when not b

    go : (c : Result Entries Refusal) → completed_of s ≡ c → (b : Bool)
        → unless_refused (first_of (order_after c (other b ∷ []) (water_above e ∷ []))) (report_on (method_of n) e)
        ≡ unless_refused (first_of (order_after c (other b ∷ []) (water_above (entries_in c) ∷ []))) (report_on (method_of n) (entries_in c))
    go (Ok d) h b = rw (entries_are s refl h) refl
    go (Err r) h b = refusal (is_thirty r) b
      where
        refusal : (t b : Bool)
            → unless_refused (first_of (cond t [] (other b ∷ []) ++ (r when true) ∷ [])) (report_on (method_of n) e)
            ≡ unless_refused (first_of (cond t [] (other b ∷ []) ++ (r when true) ∷ [])) (report_on (method_of n) (entries_in (Err r)))
        refusal true b = refl
        refusal false true = refl
        refusal false false = refl

-- ---- THE ORDER IN THE DOCUMENTS' NUMBERS, AND WHICH REFUSAL IS ANSWERED WHEN

pub judge_order_lem : (n : ℕ) (s : Sheet) → codes (judge_order n s) ≡ plain 30 ∷ plain 42 ∷ plain 32 ∷ plain 35 ∷ plain 36 ∷ plain 38 ∷ plain 37 ∷ []
judge_order_lem n s = refl

pub answer_of : (a : Answer) (j : Judgement) → j.answer ≡ Ok tt → (unless_refused a j).answer ≡ a
answer_of (Ok u) j e = e
answer_of (Err r) j e = refl

pub judged_answer : (n : ℕ) (s : Sheet) → (judged n s).answer ≡ first_of (judge_order n s)
unfolding judged
judged_answer n s = answer_of (first_of (judge_order n s)) (report_on (method_of n) (entries_of s)) refl

pub judged_exactly : (n : ℕ) (s : Sheet) (r : Refusal) → ((judged n s).answer ≡ Err r) ↔ First (judge_order n s) r
judged_exactly n s r =
    let f = first_exactly (judge_order n s) r in
    (λ e. f.0 (sym (judged_answer n s) ∙ e), λ k. judged_answer n s ∙ f.1 k)

pub thirty_judged : (n : ℕ) (s : Sheet) → ((judged n s).answer ≡ Err Unreachable) ↔ (LeftByRun s → ⊥)
thirty_judged n s =
    let f = thirty_first s (other_method n ∷ (incomplete s ++ water_above (entries_of s) ∷ [])) tt in
    (λ e. f.0 (sym (judged_answer n s) ∙ e), λ k. judged_answer n s ∙ f.1 k)

-- 42 exactly where a run leaves the sheet and no method has the number
pub forty_two_judged : (n : ℕ) (s : Sheet) → ((judged n s).answer ≡ Err BadMethod) ↔ (LeftByRun s × ((m : Method) → n ≡ method_number m → ⊥))
forty_two_judged n s =
    let f = go (reachable s) refl in
    (λ e. f.0 (sym (judged_answer n s) ∙ e), λ k. judged_answer n s ∙ f.1 k)
  where
    later : List Condition
    later = incomplete s ++ water_above (entries_of s) ∷ []

    second : (b : Bool) → (other_method n).applies ≡ b → LeftByRun s
        → (cond b (Err BadMethod) (first_of later) ≡ Err BadMethod) ↔ (LeftByRun s × ((m : Method) → n ≡ method_number m → ⊥))
    second true e l = (λ k. (l, (other_exactly n).0 e), λ k. refl)
    second false e l = (λ k. absurd (never_answered BadMethod later tt k), λ k. absurd (true≢false (sym ((other_exactly n).1 k.1) ∙ e)))

    go : (b : Bool) → reachable s ≡ b
        → (cond (not b) (Err Unreachable) (first_of (other_method n ∷ later)) ≡ Err BadMethod) ↔ (LeftByRun s × ((m : Method) → n ≡ method_number m → ⊥))
    go true e = second (other_method n).applies refl ((left_exactly s).0 (subst T (sym e) tt))
    go false e = (λ k. absurd (omega (arith, ap (λ (a : Answer). (answer_code a).number) k)), λ k. absurd (subst T e ((left_exactly s).1 k.0)))

-- ---- FOR QUESTIONS THAT REST ON JUDGING

-- a report exists of complete sheets alone
accepted_complete : (n : ℕ) (c : Result Entries Refusal) → (judged_completed n c).answer ≡ Ok tt → c ≡ Ok (entries_in c)
unfolding judged_completed
accepted_complete n (Ok e) h = refl
accepted_complete n (Err r) h = go (is_thirty r) (other_method n).applies h
  where
    go : {X : Type 0} (t b : Bool)
        → (unless_refused (first_of (cond t [] ((BadMethod when b) ∷ []) ++ (r when true) ∷ [])) (report_on (method_of n) (entries_in (Err r)))).answer ≡ Ok tt → X
    go true b e = clash e
    go false true e = clash e
    go false false e = clash e

-- what is known of a judgement on what a sheet was asked first
module _ (n : ℕ) (s : Sheet) {c : Result Entries Refusal} (first : c ≡ completed_of s) {j : Judgement} (judgement : j ≡ judged_completed n c) where
  judged_as : j ≡ judged n s
  judged_as = judgement ∙ ap (judged_completed n) first ∙ sym (judged_completed_lem n s)

  -- its answer is the order's,
  pub answer_first : {a : Answer} → j.answer ≡ a → first_of (judge_order n s) ≡ a
  answer_first e = sym (judged_answer n s) ∙ ap (λ (k : Judgement). k.answer) (sym judged_as) ∙ e

  module _ (accepted : j.answer ≡ Ok tt) where
    -- and where that is no refusal, the sheet is complete and the report is on its entries
    pub accepted_entries : c ≡ Ok (entries_in c)
    accepted_entries = accepted_complete n c (ap (λ (k : Judgement). k.answer) (sym judgement) ∙ accepted)

    pub accepted_report : j ≡ report_on (method_of n) (entries_of s)
    unfolding judged
    accepted_report = judged_as ∙ ap (λ (a : Answer). unless_refused a (report_on (method_of n) (entries_of s))) (answer_first accepted)
