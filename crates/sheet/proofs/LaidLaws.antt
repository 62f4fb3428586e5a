-- A sheet that is laid out is read again, in any version that tells its tank and takes its anchors (`laid_read`).
-- Assumes nothing.
use Rattle.std.specs.Prelude.{Option, Some}
use mathlib.Core.Path.{◌≡◌, sym, ap, ◌∙◌, subst}
use mathlib.Core.List.{List, [], ◌∷◌, ◌++◌}
use Prim.Native.Nat.{◌≤◌}
use native.Mathlib.Omega.{arith}
use lib.Dec.{T}
use lib.ListN.{length}
use mir.Facts.{and_yes}
use Rattle.fields.specs.declared.refusal.Refusal.TheVariants.{BadAnchors}
use Rattle.fields.specs.Order.{Answer, Condition, ◌when◌, Figure, values, first_of, outside, clear}
use Rattle.fields.proofs.OrderLaws.{clear_accepted}
use Rattle.entries.specs.Sheet.{tank_fields, site_fields, anchor_fields, course_fields, empty_sheet, held}
use Rattle.flaws.specs.Flaws.{allowance_too_large, bad_anchors, tank_flaws, site_flaws, anchor_flaws, course_flaws}
use Rattle.entries.specs.declared.sheet.Tank.{Tank}
use Rattle.entries.specs.declared.sheet.Site.{Site}
use Rattle.entries.specs.declared.sheet.Anchors.{Anchors}
use Rattle.entries.specs.declared.sheet.Course.{Course}
use Rattle.entries.specs.declared.sheet.Sheet.{Sheet}
use Rattle.flaws.proofs.FieldLaws.{all_pass, both_pass}
use Rattle.layout.specs.Numbers.{two_in}
use Rattle.layout.specs.declared.version.Version.{Version}
use Rattle.layout.specs.Header.{count_of, read_order}
use Rattle.layout.proofs.HeaderLaws.{headed, headed_version, count_of_length}
use Rattle.layout.proofs.BackLaws.{Tells, Small, small_of, SmallCourses, none, one, tank_back, tail_back, site_back, anchors_back, courses_back_again, laid, laid_length, laid_header}
use Rattle.parts.specs.Parts.{site_clear, anchors_clear, courses_clear}
use Rattle.sheet.specs.Steps.{accepted, consistent, unless, in_turn}
use Rattle.sheet.specs.declared.steps.Step.{Step}
use Rattle.sheet.specs.Reading.{steps_in, read_in}
use Rattle.sheet.proofs.ReachLaws.{Held, parts_held, slots_held}
use Rattle.sheet.proofs.RebuildLaws.{Taken, held_length, steps_of, rebuilt}

clear_small : (fs : List Figure) (c : Condition) → T (clear (outside fs ++ c ∷ [])) → Small (values fs)
clear_small fs c t = small_of fs (both_pass fs c t).0

small_courses : (cs : List Course) → T (courses_clear cs) → SmallCourses cs
unfolding courses_clear course_flaws
small_courses [] h = none
small_courses (c ∷ cs) h =
    let k = and_yes (clear (course_flaws c)) (courses_clear cs) h in
    one (clear_small (course_fields c) (allowance_too_large c.plate c.allowance) k.0) (small_courses cs k.1)

laid_steps : (v : Version) (t : Tank) (x : Site) (a : Anchors) (cs : List Course) → Tells v t
    → T (clear (tank_flaws t)) → T (clear (site_flaws x)) → T (clear (anchor_flaws t.diameter a)) → T (courses_clear cs) → length cs ≤ 12
    → steps_in v (laid v t x a cs) ≡ steps_of t (Some x) (Some a) cs
unfolding steps_in tank_flaws site_flaws anchor_flaws
laid_steps v t x a cs e kt kx ka kc m =
    let n : count_of v (two_in (laid v t x a cs)) ≡ length cs = ap (count_of v) (laid_length v t x a cs m) ∙ count_of_length v (length cs) in
    let y = tank_back v t x a cs e (clear_small (tank_fields t) (allowance_too_large t.plate t.allowance) kt) in
    let z = site_back x a cs (small_of (site_fields x) (all_pass (site_fields x) (clear_accepted (outside (site_fields x)) kx))) in
    let w = anchors_back x a cs (clear_small (anchor_fields a) (BadAnchors when bad_anchors t.diameter a) ka) in
    rw (n, y, tail_back v t x a cs, z, w, courses_back_again x a cs (small_courses cs kc))

-- A SHEET THAT IS LAID OUT IS READ AGAIN
pub laid_read : (v : Version) (s : Sheet) → T (consistent s) → (t : Tank) → s.tank ≡ Some t → (x : Site) → s.site ≡ Some x
    → (a : Anchors) → s.anchors ≡ Some a → (s.count ≡ 0 → ⊥) → Tells v t → Taken v t.diameter (Some a)
    → read_in (laid v t x a (held s)) ≡ accepted s
unfolding read_in
laid_read v s h t et x ex a ea z k l =
    let d : Held s.tank = record { entry = t; is = et } in
    let p = parts_held s h d in
    let q = slots_held s h in
    let few : length (held s) ≤ 12 = omega (arith, held_length s h, q.few) in
    let b = laid v t x a (held s) in
    let g = laid_header v t x a (held s) few (omega (arith, held_length s h, z)) in
    ap (λ (v : Version). unless (first_of (read_order b)) (in_turn v empty_sheet (steps_in v b))) (headed_version v b g)
    ∙ ap (λ (y : Answer). unless y (in_turn v empty_sheet (steps_in v b))) (headed v b g)
    ∙ ap (λ (xs : List Step). in_turn v empty_sheet xs)
    (laid_steps v t x a (held s) k p.0 (subst (λ (y : Option Site). T (site_clear y)) ex p.1) (subst (λ (y : Option Anchors). T (anchors_clear t.diameter y)) ea p.2) q.clear few)
    ∙ ap (λ (y : Option Site). in_turn v empty_sheet (steps_of t y (Some a) (held s))) (sym ex)
    ∙ ap (λ (y : Option Anchors). in_turn v empty_sheet (steps_of t s.site y (held s))) (sym ea)
    ∙ rebuilt v s h d (subst (Taken v t.diameter) (sym ea) l)
