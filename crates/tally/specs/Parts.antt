-- The same, part of the file by part: how far a tally has come, and what a part adds to it.
use Rattle.std.specs.Prelude.{Bool, true, false, not, cond, ◌&&◌, ◌||◌, List, [], ◌∷◌, ◌++◌, ℕ, zero, suc, ◌+◌, ◌*◌, ◌-◌, ◌≤◌, T, leb, length, take, drop, ℤ, pos, nat_abs, ◌+ℤ◌, Option, Some, None, Ok}
use Rattle.std.specs.Int.{int_min}
use Rattle.std.specs.List.{list_all}
use Rattle.rules.specs.Bounds.{most_required}
use Rattle.layout.specs.Numbers.{two_in}
use Rattle.layout.specs.Header.{is_length}
use Rattle.layout.specs.declared.version.Version.TheVariants.{One, Two}
use Rattle.reports.specs.declared.report.CourseLine.{CourseLine}
use Rattle.reports.specs.declared.report.Report.{Report}
use Rattle.reports.specs.declared.report.Judgement.{Judgement}
use Rattle.marking.specs.Marking.{marked}
use Rattle.tally.specs.Tally.{own_length, own_bytes, after_own, stops, most_sheets, is_sound, is_short, is_refused, one_if, differences_on, sum_of, least_of, AddsUp}
use Rattle.tally.specs.declared.tally.Tally.{Tally}
use Rattle.tally.specs.declared.progress.Progress.{Progress}
use Rattle.tally.specs.declared.progress.Taken.{Taken}

abbrev pub no_tally : Tally
no_tally = record { read = 0; sound = 0; short = 0; refused = 0; sum = pos 0; least = None }

-- the lesser of two, where there are two
abbrev pub lesser : Option ℤ → Option ℤ → Option ℤ
lesser None e = e
lesser (Some d) None = Some d
lesser (Some d) (Some e) = Some (int_min d e)

-- one judgement more
unfoldable pub counted : Tally → Judgement → Tally
counted t j =
    record {
      read = t.read + 1;
      sound = t.sound + one_if (is_sound j);
      short = t.short + one_if (is_short j);
      refused = t.refused + one_if (is_refused j);
      sum = t.sum +ℤ sum_of (differences_on j);
      least = lesser t.least (least_of (differences_on j));
    }

-- the differences of a report added, and the report counted with them
abbrev pub with_differences : Tally → List ℤ → Tally
with_differences t ds = record t { sum = t.sum +ℤ sum_of ds; least = lesser t.least (least_of ds) }

abbrev pub with_report : Tally → Report → Tally
with_report t r = counted t (record { answer = Ok tt; report = r })

abbrev pub counted_all : Tally → List Judgement → Tally
counted_all t [] = t
counted_all t (j ∷ js) = counted_all (counted t j) js

-- `room` is how many sheets may still be read: none after a stop
abbrev pub start : Progress
start = record { tally = no_tally; room = most_sheets }

abbrev pub passed : Progress → Judgement → Progress
passed p j = record { tally = counted p.tally j; room = cond (stops j) 0 (p.room - 1) }

-- the lengths that are not 13's: 58 + 20 × n and 62 + 20 × n
abbrev pub is_usable : ℕ → Bool
is_usable L = is_length One L || is_length Two L

-- a length that is there, and that no sheet has
abbrev pub has_bad_length : List ℕ → Bool
has_bad_length b = leb 2 (length b) && not (is_usable (two_in b))

-- A part of the file: whether a sheet that begins here is read now, since it is whole, or is 13 whatever its bytes, or nothing comes after the
-- part; and after all those that are, how far the tally has come, and what is left of the part: nothing, where no sheet is read any more.
abbrev pub is_ready : Bool → List ℕ → Bool
is_ready ended [] = false
is_ready ended (x ∷ xs) =
    let b = x ∷ xs in
    ended || leb (own_length b) (length b) || has_bad_length b

pub record AfterPart : Type 0 where
  pub progress : Progress
  pub rest : List ℕ

abbrev pub leaves : ℕ → Tally → List ℕ → AfterPart
leaves room t b = record { progress = record { tally = t; room = room }; rest = b }

unfoldable pub after_part : ℕ → Tally → Bool → List ℕ → AfterPart
after_part zero t ended b = leaves 0 t []
after_part (suc room) t ended b =
    let j = marked (own_bytes b) in
    cond
    (is_ready ended b)
    (cond (stops j) (leaves 0 (counted t j) []) (after_part room (counted t j) ended (after_own b)))
    (leaves (suc room) t b)

abbrev pub reply_of : Taken → List ℕ → AfterPart
reply_of y part = record { progress = y.progress; rest = drop y.used part }

-- a file that comes in parts: each is taken behind what the one before it left, and then it is ended
abbrev pub over_parts : Progress → List ℕ → List (List ℕ) → Tally
over_parts p held [] = (after_part p.room p.tally true held).progress.tally
over_parts p held (part ∷ parts) =
    let l = after_part p.room p.tally false (held ++ part) in over_parts l.progress l.rest parts

-- ---- that no figure of it leaves the machine's numbers: of a sheet's twelve courses at most, each plate and each required plate is at most 8,905

abbrev pub is_measured : CourseLine → Bool
is_measured line = leb line.required most_required && leb line.plate most_required

pub record Measured (r : Report) : Type 0 where
  pub few : r.count ≤ 12
  pub lines : T (list_all is_measured (take r.count r.lines))

pub record Bounded (t : Tally) : Type 0 where
  pub adds_up : AddsUp t
  pub sum : nat_abs t.sum ≤ 12 * most_required * t.read

pub record Within (p : Progress) : Type 0 where
  pub room : p.tally.read + p.room ≤ most_sheets
  pub bounded : Bounded p.tally
