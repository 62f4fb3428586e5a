-- What judging and writing ask of a sheet first, and what a complete one holds: document 01, "Filling in" ("A sheet is complete when it has a
-- tank, a site and a course") and "Order", with S-1 of document 02 ("A sheet is complete only when its anchors are stated too").
use Rattle.std.specs.Prelude.{◌≡◌, Bool, true, false, cond, List, [], ◌∷◌, ◌++◌, ◌≤◌, T, eqb, length, take, replicate, None, is_none, Result, Ok, Err}
use Rattle.std.specs.Result.{result_unwrap_or}
use Rattle.fields.specs.declared.refusal.Refusal.{Refusal}
use Rattle.fields.specs.declared.refusal.Code.{Code}
use Rattle.fields.specs.declared.refusal.Refusal.TheVariants.{Unreachable, NoTank, NoCourse, NoSite, AnchorsUnstated}
use Rattle.fields.specs.Order.{Condition, ◌when◌, first_of, reply_unless, clear, answer_code, first_code}
use Rattle.entries.specs.Sheet.{blank_course, held, height_of}
use Rattle.flaws.specs.Flaws.{tank_of, site_of, anchors_of, tank_flaws, site_flaws, anchor_flaws}
use Rattle.entries.specs.declared.sheet.Course.{Course}
use Rattle.entries.specs.declared.sheet.Sheet.{Sheet}
use Rattle.parts.specs.Parts.{courses_clear}
use Rattle.sheet.specs.Steps.{unreachable}
use Rattle.entries.specs.declared.complete.Entries.{Entries}

-- 32, 35, 36, 38
abbrev pub incomplete : Sheet → List Condition
incomplete s =
    (NoTank when is_none s.tank)
    ∷ (NoCourse when eqb s.count 0)
    ∷ (NoSite when is_none s.site)
    ∷ (AnchorsUnstated when is_none s.anchors)
    ∷ []

-- An order that goes on from these. `between` is what stands between 30 and 32 (in judging 42: document 02, S-3), `after` what follows.
abbrev pub complete_order : Sheet → List Condition → List Condition → List Condition
complete_order s between after = unreachable s ∷ (between ++ (incomplete s ++ after))

-- What a sheet holds, with the height of its shell. Judging, writing and demand 3 take these, and nothing else of a sheet.
abbrev pub entries_of : Sheet → Entries
entries_of s =
    record {
      tank = tank_of s.tank;
      site = site_of s.site;
      anchors = anchors_of s.anchors;
      courses = s.courses;
      count = s.count;
      height = height_of (held s);
    }

abbrev pub courses_of : Entries → List Course
courses_of e = take e.count e.courses

-- the answer: 30, or the first of 32, 35, 36 and 38, or the entries
unfoldable pub completed_of : Sheet → Result Entries Refusal
completed_of s = reply_unless (first_of (complete_order s [] [])) (entries_of s)

-- where there are none
abbrev pub no_entries : Entries
no_entries =
    record {
      tank = tank_of None;
      site = site_of None;
      anchors = anchors_of None;
      courses = replicate 12 blank_course;
      count = 0;
      height = 0;
    }

abbrev pub entries_in : Result Entries Refusal → Entries
entries_in y = result_unwrap_or y no_entries

-- The code of the answer, and the entries that it gives.
pub record CompletedCode : Type 0 where
  pub code : Code
  pub entries : Entries

abbrev pub completed_code : Result Entries Refusal → CompletedCode
completed_code y = record { code = answer_code y; entries = entries_in y }

abbrev pub code_with : Code → Entries → CompletedCode
code_with p e = record { code = p; entries = cond (eqb p.number 0) e no_entries }

unfoldable pub sheet_code : Sheet → CompletedCode
sheet_code s = code_with (first_code (complete_order s [] [])) (entries_of s)

-- What is left of such an order once this is answered (`complete_first`: it comes to the same): 30 stands before what is between.
abbrev pub is_thirty : Refusal → Bool
is_thirty Unreachable = true
is_thirty _ = false

abbrev pub order_after : Result Entries Refusal → List Condition → List Condition → List Condition
order_after (Ok e) between after = between ++ after
order_after (Err r) between after = cond (is_thirty r) [] between ++ (r when true) ∷ []

-- What a run leaves in a complete sheet: no entry has a flaw (size 6 is none), there is a course, and the shell is not too high. A clause, and
-- no ghost field of `Entries`: `entries_of` makes entries of any sheet.
pub record Valid (e : Entries) : Type 0 where
  pub tank : T (clear (tank_flaws e.tank))
  pub site : T (clear (site_flaws e.site))
  pub anchors : T (clear (anchor_flaws e.tank.diameter e.anchors))
  pub courses : T (courses_clear (courses_of e))
  pub some : 1 ≤ e.count
  pub few : e.count ≤ 12
  pub slots : length e.courses ≡ 12
  pub high : e.height ≡ height_of (courses_of e)
  pub low : height_of (courses_of e) ≤ 76800
