-- The sheets that a run leaves; any other is refused 30: document 01, "Refusals that come from the state", and document 02, S-10 ("for refusal
-- 30 reading a version 1 sheet counts among the steps").
use Rattle.std.specs.Prelude.{◌≡◌, List, [], ◌∷◌, ℕ, get_or, drop, Option, Some, Ok, Err}
use Rattle.fields.specs.Order.{Answer}
use Rattle.entries.specs.Sheet.{empty_sheet}
use Rattle.entries.specs.declared.sheet.Anchors.{Anchors}
use Rattle.entries.specs.declared.sheet.Sheet.{Sheet}
use Rattle.layout.specs.declared.version.Version.TheVariants.{One}
use Rattle.layout.specs.Numbers.{AllBytes}
use Rattle.layout.specs.Header.{anchors_in, tail_in}
use Rattle.sheet.specs.Steps.{stated, kept, anchors_after}
use Rattle.sheet.specs.Reading.{read_in}
use Rattle.sheet.specs.declared.steps.Step.{Step}

-- What a run does, one after the other: it states a step, or it reads bytes of version 1.
pub data Move : Type 0 where
  states : Step → Move
  reads : (b : List ℕ) → AllBytes b → get_or b 2 0 ≡ 1 → Move

-- Reading leaves the sheet that was read where the bytes are accepted, and the sheet as it was where they are not.
abbrev pub moved : Sheet → Move → Sheet
moved s (states x) = (stated s x).sheet
moved s (reads b k e) = kept (read_in b).answer s (read_in b).sheet

-- A run from the empty sheet, and the sheets that one leaves. Its steps are those that a caller states; none of them is 30 (`run_reachable`).
abbrev pub run : Sheet → List Move → Sheet
run s [] = s
run s (m ∷ ms) = run (moved s m) ms

pub record LeftByRun (s : Sheet) : Type 0 where
  pub moves : List Move
  pub leaves : run empty_sheet moves ≡ s

-- The anchors that a run states or reads last, or none: S-1's "never stated" (`anchors_last`: they are what its sheet holds).
abbrev pub anchors_read : Option Anchors → List ℕ → Answer → Option Anchors
anchors_read e b (Ok u) = Some (anchors_in (drop 20 (tail_in One b)))
anchors_read e b (Err r) = e

abbrev pub anchors_moved : Option Anchors → Sheet → Move → Option Anchors
anchors_moved e s (states x) = anchors_after e x (stated s x).answer
anchors_moved e s (reads b k v) = anchors_read e b (read_in b).answer

abbrev pub last_anchors : Option Anchors → Sheet → List Move → Option Anchors
last_anchors e s [] = e
last_anchors e s (m ∷ ms) = last_anchors (anchors_moved e s m) (moved s m) ms
