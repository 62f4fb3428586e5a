-- From the bytes of a sheet: they are read, and the sheet is judged, by D100 (document 02, S-3: "the printing program and file reports use
-- D100").
use Rattle.std.specs.Prelude.{List, ℕ}
use Rattle.fields.specs.declared.refusal.Code.{Code}
use Rattle.rules.specs.Method.{method_number}
use Rattle.rules.specs.declared.method.Method.TheVariants.{D100}
use Rattle.sheet.specs.Reading.{read_in, read_code, unless_code}
use Rattle.claims.specs.Judging.{unless_refused, judged, judge_code}
use Rattle.reports.specs.declared.report.Judgement.{Judgement}

unfoldable pub marked : List ℕ → Judgement
marked b = unless_refused (read_in b).answer (judged (method_number D100) (read_in b).sheet)

-- the answer in the documents' numbers
unfoldable pub mark_code : List ℕ → Code
mark_code b = unless_code (read_code b) (judge_code (method_number D100) (read_in b).sheet)
