-- The laws of a report's lines, one course after the other.
-- Assumes nothing.
use Rattle.entries.proofs.CourseLaws.{height_cons}
use mathlib.Core.Path.{◌≡◌, refl, sym, ap, ◌∙◌}
use mathlib.Core.List.{List, [], ◌∷◌, ◌++◌}
use Prim.Native.Nat.{ℕ, suc, ◌+◌, ◌<◌}
use native.Mathlib.Nat.{add_assoc, add-zero, zero-add}
use native.Mathlib.Numerals.{add-one}
use lib.ListN.{length, get_or, take}
use lib.Seq.{take-suc}
use Rattle.rules.specs.declared.method.Method.{Method}
use Rattle.entries.specs.Sheet.{blank_course, height_of}
use Rattle.entries.specs.declared.sheet.Tank.{Tank}
use Rattle.entries.specs.declared.sheet.Course.{Course}
use Rattle.rules.specs.Hoop.{course_verdict}
use Rattle.rules.proofs.VerdictLaws.{verdict_for}
use Rattle.claims.specs.Figures.{need_on}
use Rattle.claims.specs.Report.{line_of, lines_of, LineFor}
use Rattle.reports.specs.declared.report.CourseLine.{CourseLine}

module _ (m : Method) (t : Tank) where
  pub line_for : (y : ℕ) (c : Course) → LineFor (need_on m t y c) t c (line_of m t y c)
  unfolding line_of course_verdict
  line_for y c = record { need_is = refl; required_is = refl; plate_is = refl; verdict_is = verdict_for _ _ }

  pub lines_length : (y : ℕ) (cs : List Course) → length (lines_of m t y cs) ≡ length cs
  lines_length y [] = refl
  lines_length y (c ∷ cs) = ap suc (lines_length (y + c.width) cs)

  lines_append : (y : ℕ) (xs : List Course) (c : Course)
      → lines_of m t y (xs ++ c ∷ []) ≡ lines_of m t y xs ++ line_of m t (y + height_of xs) c ∷ []
  lines_append y [] c = ap (λ (z : ℕ). line_of m t z c ∷ []) (sym (add-zero y))
  lines_append y (x ∷ xs) c =
      ap (λ (ls : List CourseLine). line_of m t y x ∷ ls)
      (lines_append (y + x.width) xs c ∙ ap (λ (z : ℕ). lines_of m t (y + x.width) xs ++ line_of m t z c ∷ []) (add_assoc y x.width (height_of xs) ∙ ap (λ (z : ℕ). y + z) (sym (height_cons x xs))))

  -- one course more
  pub lines_next : (cs : List Course) (i : ℕ) → i < length cs
      → lines_of m t 0 (take (i + 1) cs) ≡ lines_of m t 0 (take i cs) ++ line_of m t (height_of (take i cs)) (get_or cs i blank_course) ∷ []
  lines_next cs i h =
      rw (add-one i, take-suc cs i blank_course h)
      (lines_append 0 (take i cs) (get_or cs i blank_course)
      ∙ ap (λ (z : ℕ). lines_of m t 0 (take i cs) ++ line_of m t z (get_or cs i blank_course) ∷ []) (zero-add (height_of (take i cs))))
