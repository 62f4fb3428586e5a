-- Reading a sheet, through the steps of its version: document 01, "Filling in" ("Reading is the same as an empty sheet, then tank, site,
-- anchors and the courses in turn; the first refusal ends it and the answer holds an empty sheet"). And the round trips: demand 2, "A sheet
-- read and written again has the same bytes, and a complete sheet written and read again is the same sheet", and document 02, S-8 and S-10.
use Rattle.std.specs.Prelude.{◌≡◌, cond, List, [], ◌∷◌, ◌++◌, map, ℕ, ◌≤◌, eqb, length, get_or, take, drop, Result, Ok, Err}
use Rattle.fields.specs.Refusal.{plain}
use Rattle.fields.specs.declared.refusal.Code.{Code}
use Rattle.std.specs.Result.{result_and}
use Rattle.fields.specs.declared.refusal.Refusal.{Refusal}
use Rattle.fields.specs.declared.refusal.Refusal.TheVariants.{SizeDiscontinued}
use Rattle.fields.specs.Order.{Answer, first_of, reply_unless, first_code, answer_code}
use Rattle.entries.specs.Sheet.{empty_sheet, held, height_of}
use Rattle.flaws.specs.Flaws.{anchors_of}
use Rattle.entries.specs.declared.sheet.Tank.{Tank}
use Rattle.entries.specs.declared.sheet.Site.{Site}
use Rattle.entries.specs.declared.sheet.Anchors.{Anchors}
use Rattle.entries.specs.declared.sheet.Sheet.{Sheet}
use Rattle.layout.specs.declared.version.Version.{Version}
use Rattle.layout.specs.Numbers.{two_in}
use Rattle.layout.specs.Header.{tank_in, site_in, anchors_in, courses_in, tail_in, count_of, version_in, read_order, renewed}
use Rattle.sheet.specs.Steps.{order_of, filled, applied, accepted, unless, in_turn}
use Rattle.sheet.specs.declared.steps.Step.{Step}
use Rattle.sheet.specs.declared.steps.Step.TheVariants.{StateTank, StateSite, StateAnchors, AddCourse}
use Rattle.sheet.specs.Complete.{complete_order, entries_of, completed_of, CompletedCode, code_with}
use Rattle.sheet.specs.Writing.{written, write_code}
use Rattle.entries.specs.declared.complete.Entries.{Entries}
use Rattle.sheet.specs.declared.reading.Reading.{Reading}
use Rattle.sheet.specs.declared.steps.Reply.{Reply}

-- the steps that a tail with n courses holds, the last part first
abbrev pub from_courses : ℕ → List ℕ → List Step
from_courses n tail = map AddCourse (courses_in n (drop 33 tail))

abbrev pub from_anchors : ℕ → List ℕ → List Step
from_anchors n tail = StateAnchors (anchors_in (drop 20 tail)) ∷ from_courses n tail

abbrev pub from_site : ℕ → List ℕ → List Step
from_site n tail = StateSite (site_in tail) ∷ from_anchors n tail

unfoldable pub steps_in : Version → List ℕ → List Step
steps_in v b = StateTank (tank_in v (drop 3 b)) ∷ from_site (count_of v (two_in b)) (tail_in v b)

unfoldable pub read_in : List ℕ → Reply
read_in b = unless (first_of (read_order b)) (in_turn (version_in b) empty_sheet (steps_in (version_in b) b))

-- with the height of the courses, which reading keeps for 34
abbrev pub reading : Sheet → Reading
reading s = record { sheet = s; height = height_of (held s) }

abbrev pub with_height : Reply → Result Reading Refusal
with_height y = reply_unless y.answer (reading y.sheet)

-- a sheet with tank, site and anchors, before its courses (where `read_courses` begins)
abbrev pub before_courses : Tank → Site → Anchors → Sheet
before_courses t x a = filled (filled (filled empty_sheet (StateTank t)) (StateSite x)) (StateAnchors a)

-- The code of the answer is that of the bytes' own order, or that of the first step that is refused.
abbrev pub unless_code : Code → Code → Code
unless_code p later = cond (eqb p.number 0) later p

abbrev pub turn_code : Version → Sheet → List Step → Code
turn_code v s [] = plain 0
turn_code v s (x ∷ xs) = unless_code (first_code (order_of v s x)) (turn_code v (applied v s x).sheet xs)

unfoldable pub read_code : List ℕ → Code
read_code b = unless_code (first_code (read_order b)) (turn_code (version_in b) empty_sheet (steps_in (version_in b) b))

-- The entries of the sheet that bytes are: refused as reading is, then as a sheet that is handed in is.
abbrev pub completed_from : Answer → Sheet → Result Entries Refusal
completed_from a s = result_and a (completed_of s)

unfoldable pub read_completed : List ℕ → Result Entries Refusal
read_completed b = completed_from (read_in b).answer (read_in b).sheet

unfoldable pub bytes_code : List ℕ → CompletedCode
bytes_code b =
    code_with (unless_code (read_code b) (first_code (complete_order (read_in b).sheet [] []))) (entries_of (read_in b).sheet)

-- that writing a sheet into any buffer with room for these bytes leaves just them there, and the rest of it as it was
abbrev pub WrittenAs : Sheet → List ℕ → Type 0
WrittenAs s b = (buf : List ℕ) → length b ≤ length buf → written s buf ≡ record { answer = Ok (length b); buffer = b ++ drop (length b) buf }

-- S-10: a sheet that holds size 6 can't be written: writing it into any buffer is refused 39 and leaves that as it was
abbrev pub bolt_size : Sheet → ℕ
bolt_size s = (anchors_of s.anchors).size

abbrev pub NotWritten : Sheet → Type 0
NotWritten s = (buf : List ℕ) → written s buf ≡ record { answer = Err SizeDiscontinued; buffer = buf }

-- Bytes that are read: "the same-bytes rule now speaks of version 2", and "a version 1 sheet read and written comes out as version 2 with the
-- same meaning" (S-8), where it is "without" size 6 (S-10).
pub record WritesBack (b : List ℕ) (y : Reply) : Type 0 where
  pub same : answer_code y.answer ≡ plain 0 → get_or b 2 0 ≡ 2 → WrittenAs y.sheet b
  pub renews : answer_code y.answer ≡ plain 0 → get_or b 2 0 ≡ 1 → (bolt_size y.sheet ≡ 6 → ⊥) → WrittenAs y.sheet (renewed b)
  pub meaning : answer_code y.answer ≡ plain 0 → get_or b 2 0 ≡ 1 → (bolt_size y.sheet ≡ 6 → ⊥) → read_in (renewed b) ≡ y
  pub not_written : answer_code y.answer ≡ plain 0 → bolt_size y.sheet ≡ 6 → NotWritten y.sheet

-- A sheet that is written: the bytes written are read as the same sheet.
pub record ReadsBack (s : Sheet) (w : Result ℕ Refusal) (buf : List ℕ) : Type 0 where
  pub same : (write_code w).code ≡ plain 0 → read_in (take (write_code w).bytes buf) ≡ accepted s
