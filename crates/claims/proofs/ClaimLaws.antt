-- The clauses of the public contracts: the code of the answer, and demand 3 of the sheet judged.
-- Assumes nothing.
use Rattle.std.specs.Prelude.{Result, Ok, Err}
use mathlib.Core.Path.{◌≡◌, refl, sym, ap, ◌∙◌, subst}
use mathlib.Core.Bool.{Bool, true, false, cond, not, true≢false}
use mathlib.Core.List.{[], ◌∷◌, ◌++◌}
use Prim.Native.Nat.{ℕ}
use native.Mathlib.Omega.{arith}
use Rattle.fields.specs.Refusal.{plain}
use Rattle.fields.specs.declared.refusal.Refusal.{Refusal}
use Rattle.fields.specs.declared.refusal.Refusal.TheVariants.{BadMethod}
use Rattle.fields.specs.Order.{Answer, ◌when◌, first_of, answer_code}
use Rattle.fields.proofs.OrderLaws.{clash, first_code_lem, accepted_code}
use Rattle.rules.specs.Method.{method_number, is_method, other_method, method_of}
use Rattle.rules.specs.declared.method.Method.{Method}
use Rattle.rules.specs.declared.method.Method.TheVariants.{D100, Api650}
use Rattle.rules.proofs.MethodLaws.{is_method_lem, method_of_lem, own_number}
use Rattle.entries.specs.declared.sheet.Sheet.{Sheet}
use Rattle.std.specs.Result.{ForOk}
use Rattle.sheet.specs.Complete.{entries_of, entries_in, is_thirty, order_after, Valid}
use Rattle.entries.specs.declared.complete.Entries.{Entries}
use Rattle.claims.specs.Report.{report_of}
use Rattle.claims.specs.Judging.{water_above, report_on, unless_refused, refused_for, judge_order, judged, completed_order, judged_completed, completed_judge_code, judge_code}
use Rattle.claims.specs.Meets.{Justified, JustifiedBy}
use Rattle.reports.specs.declared.report.Judgement.{Judgement}
use Rattle.reports.proofs.WordLaws.{one_of_two}
use Rattle.claims.proofs.JudgeLaws.{answer_of, judged_answer}
use Rattle.claims.proofs.MeetsLaws.{sound_meets, short_breaks}

-- ---- DEMAND 3

-- the claim speaks of answers that are no refusal
refused_justified : (method : Method) (e : Entries) (r : Refusal) → Justified method e (refused_for r)
refused_justified method e r =
    record {
      called = λ c. clash (accepted_code (Err r) c);
      sound = λ c w. clash (accepted_code (Err r) c);
      short = λ c w m. clash (accepted_code (Err r) c);
    }

module _ (method : Method) (e : Entries) (v : Valid e) where
  -- a report
  report_justified : Justified method e (report_on method e)
  unfolding report_of
  report_justified =
      record {
        called = λ c. one_of_two (report_on method e).report.word;
        sound = λ c. sound_meets method e v;
        short = λ c. short_breaks method e v;
      }

  -- and whatever an order answers before it
  unless_justified : (a : Answer) → Justified method e (unless_refused a (report_on method e))
  unless_justified (Ok u) = report_justified
  unless_justified (Err r) = refused_justified method e r

-- what is promised of a number, by the two numbers that document 02 gives
pub promised : (e : Entries) (j : Judgement) → answer_code j.answer ≡ plain 0
    → (JustifiedBy 1 e j → Justified D100 e j) × (JustifiedBy 2 e j → Justified Api650 e j)
promised e j k = (λ p. one (p k), λ p. two (p k))
  where
    one : (method : Method) × ((1 ≡ method_number method) × Justified method e j) → Justified D100 e j
    one (D100, (n, p)) = p
    one (Api650, (n, p)) = absurd (omega arith)

    two : (method : Method) × ((2 ≡ method_number method) × Justified method e j) → Justified Api650 e j
    two (D100, (n, p)) = absurd (omega arith)
    two (Api650, (n, p)) = p

-- a number that is no method's has no report
not_judged : {X : Type 0} (n : ℕ) (c : Result Entries Refusal) → is_method n ≡ false → answer_code (judged_completed n c).answer ≡ plain 0 → X
unfolding judged_completed
not_judged {X} n c f = go c (is_method n) f
  where
    refused_first : (r : Refusal) (j : Judgement) → answer_code (unless_refused (Err r) j).answer ≡ plain 0 → X
    refused_first r j k = clash (accepted_code (Err r) k)

    go : (c : Result Entries Refusal) (b : Bool) → b ≡ false
        → answer_code (unless_refused (first_of (order_after c ((BadMethod when not b) ∷ []) (water_above (entries_in c) ∷ []))) (report_on (method_of n) (entries_in c))).answer ≡ plain 0
        → X
    go c true h = absurd (true≢false h)
    go (Ok e) false h = refused_first BadMethod (report_on (method_of n) e)
    go (Err r) false h = refusal (is_thirty r)
      where
        refusal : (t : Bool)
            → answer_code (unless_refused (first_of (cond t [] ((BadMethod when true) ∷ []) ++ (r when true) ∷ [])) (report_on (method_of n) (entries_in (Err r)))).answer ≡ plain 0
            → X
        refusal true = refused_first r (report_on (method_of n) (entries_in (Err r)))
        refusal false = refused_first BadMethod (report_on (method_of n) (entries_in (Err r)))

-- of what a sheet is asked first, where a complete one has these entries; by a method, and by a number
module _ (e : Entries) (c : Result Entries Refusal) (v : ForOk c (λ d. (d ≡ e) × Valid d)) where
  pub completed_justified : (method : Method) → Justified method e (judged_completed (method_number method) c)
  unfolding judged_completed
  completed_justified method = rw (method_of_lem method) (go c v)
    where
      go : (c : Result Entries Refusal) → ForOk c (λ d. (d ≡ e) × Valid d)
          → Justified method e (unless_refused (first_of (completed_order (method_number method) c)) (report_on method (entries_in c)))
      go (Err r) v = rw (is_method_lem method) (refusal (is_thirty r))
        where
          refusal : (t : Bool)
              → Justified method e (unless_refused (first_of (cond t [] ((BadMethod when false) ∷ []) ++ (r when true) ∷ [])) (report_on method (entries_in (Err r))))
          refusal true = refused_justified method e r
          refusal false = refused_justified method e r
      go (Ok d) v =
          let a = first_of (other_method (method_number method) ∷ water_above d ∷ []) in
          subst (λ (x : Entries). Justified method x (unless_refused a (report_on method d))) (v d refl).0
          (unless_justified method d (v d refl).1 a)

  pub completed_justified_by : (n : ℕ) → JustifiedBy n e (judged_completed n c)
  completed_justified_by n = go (is_method n) refl
    where
      go : (b : Bool) → is_method n ≡ b → JustifiedBy n e (judged_completed n c)
      go true f k =
          let o = own_number n f in
          (method_of n, (o, subst (λ (k : ℕ). Justified (method_of n) e (judged_completed k c)) (sym o) (completed_justified (method_of n))))
      go false f k = not_judged n c f k

-- ---- the clauses

pub judge_code_lem : (n : ℕ) (s : Sheet) → answer_code (judged n s).answer ≡ judge_code n s
unfolding judge_code
judge_code_lem n s = ap answer_code (judged_answer n s) ∙ first_code_lem (judge_order n s)

completed_code_lem : (n : ℕ) (c : Result Entries Refusal) → answer_code (judged_completed n c).answer ≡ completed_judge_code n c
unfolding judged_completed completed_judge_code
completed_code_lem n c = ap answer_code (answer_of (first_of (completed_order n c)) (report_on (method_of n) (entries_in c)) refl) ∙ first_code_lem (completed_order n c)

pub judge_clauses : (n : ℕ) (s : Sheet) {j : Judgement} → j ≡ judged n s → JustifiedBy n (entries_of s) j
    → (j ≡ judged n s) × ((answer_code j.answer ≡ judge_code n s) × JustifiedBy n (entries_of s) j)
judge_clauses n s e k = (e, (ap (λ (j : Judgement). answer_code j.answer) e ∙ judge_code_lem n s, k))

pub completed_clauses : (n : ℕ) (c : Result Entries Refusal) → ForOk c Valid → {j : Judgement} → j ≡ judged_completed n c
    → (j ≡ judged_completed n c) × ((answer_code j.answer ≡ completed_judge_code n c) × JustifiedBy n (entries_in c) j)
completed_clauses n c v e = (
  e,
  (
    ap (λ (j : Judgement). answer_code j.answer) e ∙ completed_code_lem n c,
    subst (JustifiedBy n (entries_in c)) (sym e) (completed_justified_by (entries_in c) c (own c v) n),
  ),
)
  where
    own : (c : Result Entries Refusal) → ForOk c Valid → ForOk c (λ d. (d ≡ entries_in c) × Valid d)
    own (Ok e) v d k = (let h : e ≡ d = cc in sym h, v d k)
    own (Err r) v d k = clash k
