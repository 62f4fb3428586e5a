-- A report or a refusal as lines of words: document 01, "The example tank".
use Rattle.fields.specs.Order.{Answer}
use Rattle.std.specs.Prelude.{cond, List, [], ◌∷◌, ◌++◌, map, ℕ, ◌+◌, eqb, take, Ok, Err}
use Rattle.fields.specs.Refusal.{code_of}
use Rattle.fields.specs.declared.refusal.Code.{Code}
use Rattle.stability.specs.Earthquake.{uplift_word}
use Rattle.rules.specs.Verdict.{verdict_word}
use Rattle.lists.specs.Ascii.{ascii}
use Rattle.reports.specs.Words.{tank_word}
use Rattle.reports.specs.declared.report.CourseLine.{CourseLine}
use Rattle.reports.specs.declared.report.SelfChecks.{SelfChecks}
use Rattle.reports.specs.declared.report.AnchorChecks.{AnchorChecks}
use Rattle.reports.specs.declared.report.Standing.{Standing}
use Rattle.reports.specs.declared.report.Standing.TheVariants.{SelfAnchored, Anchored}
use Rattle.reports.specs.declared.report.Word.{Word}
use Rattle.reports.specs.declared.report.Report.{Report}
use Rattle.reports.specs.declared.report.Judgement.{Judgement}
use Rattle.words.specs.Decimal.{decimal, signed}

-- A line is its words with a blank between them, and a line end.
abbrev pub Line : Type 0
Line = List (List ℕ)

abbrev pub more : Line → List ℕ
more [] = ascii "\n"
more (word ∷ words) = ascii " " ++ word ++ more words

abbrev pub line : Line → List ℕ
line [] = ascii "\n"
line (word ∷ words) = word ++ more words

abbrev pub text : List Line → List ℕ
text [] = []
text (l ∷ ls) = line l ++ text ls

-- "Course: number, hoop need without c, required, t, ok or short."
abbrev pub course_line : ℕ → CourseLine → Line
course_line number c =
    ascii "course"
    ∷ decimal number
    ∷ decimal c.need
    ∷ decimal c.required
    ∷ decimal c.plate
    ∷ verdict_word c.verdict
    ∷ []

abbrev pub course_lines : ℕ → List CourseLine → List Line
course_lines number [] = []
course_lines number (c ∷ cs) = course_line number c ∷ course_lines (number + 1) cs

-- "Wind: p, M."
abbrev pub wind_line : ℕ → ℕ → Line
wind_line p M = ascii "wind" ∷ decimal p ∷ decimal M ∷ []

-- "Pull: wind, earthquake."
abbrev pub pull_line : AnchorChecks → Line
pull_line c = ascii "pull" ∷ signed c.wind_pull ∷ signed c.quake_pull ∷ []

abbrev pub anchor_line : AnchorChecks → Line
anchor_line c =
    ascii "anchors" ∷ ascii "spacing" ∷ verdict_word c.spacing ∷ ascii "strength" ∷ verdict_word c.strength ∷ []

-- "With N = 0 the pull and anchor lines give way to": wind verdict, T, lift.
abbrev pub self_line : SelfChecks → Line
self_line c =
    ascii "self" ∷ ascii "wind" ∷ verdict_word c.wind ∷ ascii "resist" ∷ decimal c.resistance ∷ uplift_word c.uplift ∷ []

abbrev pub standing_lines : Standing → List Line
standing_lines (SelfAnchored c) = self_line c ∷ []
standing_lines (Anchored c) = pull_line c ∷ anchor_line c ∷ []

-- "The last line is `tank sound` or `tank short`."
abbrev pub tank_line : Word → Line
tank_line word = ascii "tank" ∷ tank_word word ∷ []

abbrev pub report_lines : Report → List Line
report_lines r =
    course_lines 1 (take r.count r.lines)
    ++ wind_line r.pressure r.moment
    ∷ (standing_lines r.standing ++ tank_line r.word ∷ [])

abbrev pub code_figures : Code → List ℕ
code_figures p = cond (eqb p.number 16) (p.number ∷ p.field ∷ []) (p.number ∷ [])

-- "`refused`, a blank, the number, and for 16 a blank and the field"
abbrev pub refusal_line : Code → Line
refusal_line p = ascii "refused" ∷ map decimal (code_figures p)

abbrev pub answer_lines : Answer → Report → List Line
answer_lines (Ok u) r = report_lines r
answer_lines (Err refusal) r = refusal_line (code_of refusal) ∷ []

unfoldable pub text_of : Judgement → List ℕ
text_of j = text (answer_lines j.answer j.report)

-- No text is longer: with twenty digits in every number, and a sign in a pull, twelve courses of 97 bytes, wind 47, pull 49,
-- anchors 37, tank 11.
abbrev pub most_text : ℕ
most_text = 1308
