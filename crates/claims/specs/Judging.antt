-- Judging a sheet by the method with a number n: document 01, "Order" and "Refusals that come from the state"; document 02, S-1 and S-3.
use Rattle.std.specs.Prelude.{List, [], ◌∷◌, ℕ, ltb, Result, Ok, Err}
use Rattle.fields.specs.declared.refusal.Code.{Code}
use Rattle.fields.specs.declared.refusal.Refusal.{Refusal}
use Rattle.fields.specs.declared.refusal.Refusal.TheVariants.{WaterAboveShell}
use Rattle.fields.specs.Order.{Answer, Condition, ◌when◌, first_of, reply_unless, first_code}
use Rattle.rules.specs.Method.{other_method, method_of}
use Rattle.rules.specs.declared.method.Method.{Method}
use Rattle.entries.specs.declared.sheet.Sheet.{Sheet}
use Rattle.sheet.specs.Complete.{complete_order, entries_of, courses_of, entries_in, order_after}
use Rattle.entries.specs.declared.complete.Entries.{Entries}
use Rattle.reports.specs.Blank.{blank_report}
use Rattle.claims.specs.Report.{report_of}
use Rattle.reports.specs.declared.report.Report.{Report}
use Rattle.reports.specs.declared.report.Judgement.{Judgement}

-- 37: "H above Hs"
abbrev pub water_above : Entries → Condition
water_above e = WaterAboveShell when ltb e.height e.tank.level

-- Judge: 30, 42, 32, 35, 36, 38, 37.
abbrev pub judge_order : ℕ → Sheet → List Condition
judge_order n s = complete_order s (other_method n ∷ []) (water_above (entries_of s) ∷ [])

-- a report, or a refusal beside a blank one
abbrev pub report_with : Method → Entries → Report
report_with method e = report_of method e.tank e.site e.anchors (courses_of e)

abbrev pub report_on : Method → Entries → Judgement
report_on method e = record { answer = Ok tt; report = report_with method e }

abbrev pub refused_for : Refusal → Judgement
refused_for r = record { answer = Err r; report = blank_report }

abbrev pub unless_refused : Answer → Judgement → Judgement
unless_refused (Ok u) j = j
unless_refused (Err r) j = refused_for r

unfoldable pub judged : ℕ → Sheet → Judgement
judged n s = unless_refused (first_of (judge_order n s)) (report_on (method_of n) (entries_of s))

-- of what a sheet is asked first, whose refusal stands for 30, 32, 35, 36 or 38 (`judged_completed_lem`: it comes to the same) or, from
-- bytes, is one of reading
abbrev pub completed_order : ℕ → Result Entries Refusal → List Condition
completed_order n c = order_after c (other_method n ∷ []) (water_above (entries_in c) ∷ [])

unfoldable pub judged_completed : ℕ → Result Entries Refusal → Judgement
judged_completed n c = unless_refused (first_of (completed_order n c)) (report_on (method_of n) (entries_in c))

-- the report alone, or the refusal; and that of the entries of a complete sheet, by a method
unfoldable pub report_for : ℕ → Result Entries Refusal → Result Report Refusal
report_for n c = reply_unless (first_of (completed_order n c)) (report_with (method_of n) (entries_in c))

unfoldable pub report_by : Method → Entries → Result Report Refusal
report_by method e = reply_unless (first_of (water_above e ∷ [])) (report_with method e)

-- the answer in the documents' numbers: of what is asked first, and of a sheet
unfoldable pub completed_judge_code : ℕ → Result Entries Refusal → Code
completed_judge_code n c = first_code (completed_order n c)

unfoldable pub judge_code : ℕ → Sheet → Code
judge_code n s = first_code (judge_order n s)
