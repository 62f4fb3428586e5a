-- The laws of a sheet's layout: how long its parts are, and the stores that leave them.
-- Assumes nothing.
use mathlib.Core.Path.{◌≡◌, refl, sym, ap, ◌∙◌}
use mathlib.Core.List.{List, [], ◌∷◌, ◌++◌}
use Prim.Native.Nat.{ℕ, ◌+◌, ◌*◌, ◌≤◌, ◌<◌}
use native.Mathlib.Numerals.{add-one}
use native.Mathlib.Omega.{arith}
use lib.ListN.{length, get_or, take, drop, set, length-append}
use lib.Seq.{sets, take-suc, length-take-le}
use Rattle.lists.proofs.SetsLaws.{sets_append, all_stored}
use Rattle.entries.specs.Sheet.{tank_figures, site_figures, anchor_figures, course_figures, blank_course}
use Rattle.entries.specs.declared.sheet.Tank.{Tank}
use Rattle.entries.specs.declared.sheet.Site.{Site}
use Rattle.entries.specs.declared.sheet.Anchors.{Anchors}
use Rattle.entries.specs.declared.sheet.Course.{Course}
use Rattle.layout.specs.Numbers.{two, fours}
use Rattle.layout.specs.declared.version.Version.{Version}
use Rattle.layout.specs.declared.version.Version.TheVariants.{One, Two}
use Rattle.layout.specs.Layout.{prefix_length, tail_length, whole_length, prefix_of, tail_head, courses_figures, tail_of, layout}
use Rattle.layout.proofs.NumberLaws.{fours_length, fours_append}

-- ---- lengths; a sheet of version 2 has "64 + 20 × n bytes"

pub whole_of_two : (n : ℕ) → whole_length Two n ≡ 64 + 20 * n
whole_of_two n = omega arith

-- prefix and tail
pub whole_parts : (v : Version) (n : ℕ) → whole_length v n ≡ prefix_length v + tail_length n
whole_parts One n = omega arith
whole_parts Two n = omega arith

pub prefix_length_lem : (v : Version) (n : ℕ) (t : Tank) → length (prefix_of v n t) ≡ prefix_length v
unfolding prefix_of
prefix_length_lem One n t = refl
prefix_length_lem Two n t = refl

pub head_length : (x : Site) (a : Anchors) (n : ℕ) → length (tail_head x a n) ≡ 33
unfolding tail_head
head_length x a n = refl

pub courses_figures_length : (cs : List Course) → length (courses_figures cs) ≡ 5 * length cs
courses_figures_length [] = refl
courses_figures_length (c ∷ cs) = omega (arith, courses_figures_length cs)

pub tail_length_lem : (x : Site) (a : Anchors) (cs : List Course) → length (tail_of x a cs) ≡ tail_length (length cs)
tail_length_lem x a cs =
    omega (arith, length-append (tail_head x a (length cs)) (fours (courses_figures cs)), head_length x a (length cs), fours_length (courses_figures cs), courses_figures_length cs)

pub layout_length : (v : Version) (t : Tank) (x : Site) (a : Anchors) (cs : List Course) → length (layout v t x a cs) ≡ whole_length v (length cs)
layout_length v t x a cs =
    omega (arith, length-append (prefix_of v (length cs) t) (tail_of x a cs), prefix_length_lem v (length cs) t, tail_length_lem x a cs, whole_parts v (length cs))

-- ---- stores

-- length and version, and then the tank
module _ (n : ℕ) (t : Tank) (l : List ℕ) {o f : List ℕ} (e : o ≡ sets (sets l 0 (two (62 + 20 * n) ++ (2 ∷ []))) 3 (fours f)) (k : f ≡ tank_figures t) where
  pub prefix_stored : o ≡ sets l 0 (prefix_of Two n t)
  unfolding prefix_of
  prefix_stored =
      e
      ∙ ap (λ (z : List ℕ). sets (sets l 0 (two (62 + 20 * n) ++ (2 ∷ []))) 3 (fours z)) k

-- site and anchors, and then n
module _ (x : Site) (a : Anchors) (n : ℕ) (l : List ℕ) (at : ℕ) {p f q g : List ℕ}
    (i : p ≡ sets l at (fours f)) (j : f ≡ site_figures x) (k : q ≡ sets p (at + 20) (fours g)) (m : g ≡ anchor_figures a) where
  pub head_stored : set q (at + 32) n ≡ sets l at (tail_head x a n)
  unfolding tail_head
  head_stored =
      let s = fours (site_figures x) in
      let z = fours (anchor_figures a) in
      let e : at + 20 + 12 ≡ at + 32 = omega arith in
      ap (λ (y : List ℕ). set y (at + 32) n)
      (k ∙ ap (λ (y : List ℕ). sets p (at + 20) (fours y)) m ∙ ap (λ (y : List ℕ). sets y (at + 20) z) (i ∙ ap (λ (y : List ℕ). sets l at (fours y)) j))
      ∙ ap (λ (w : ℕ). set (sets (sets l at s) (at + 20) z) w n) (sym e)
      ∙ sym (sets_append z (n ∷ []) (sets l at s) (at + 20))
      ∙ sym (sets_append s (z ++ (n ∷ [])) l at)

-- the courses, one after the other
courses_figures_append : (xs ys : List Course) → courses_figures (xs ++ ys) ≡ courses_figures xs ++ courses_figures ys
courses_figures_append [] ys = refl
courses_figures_append (x ∷ xs) ys =
    ap (λ (l : List ℕ). course_figures x ++ l) (courses_figures_append xs ys)

pub courses_stored : (l : List ℕ) (at : ℕ) (cs : List Course) (i : ℕ) → i < length cs
    → sets (sets l at (fours (courses_figures (take i cs)))) (at + 20 * i) (fours (course_figures (get_or cs i blank_course)))
    ≡ sets l at (fours (courses_figures (take (i + 1) cs)))
courses_stored l at cs i h =
    let c = get_or cs i blank_course in
    let f = courses_figures (take i cs) in
    let n : at + length (fours f) ≡ at + 20 * i
    = omega (arith, fours_length f, courses_figures_length (take i cs), length-take-le i cs (omega arith)) in
    let e : take (i + 1) cs ≡ take i cs ++ (c ∷ []) = rw (add-one i) (take-suc cs i blank_course h) in
    ap (λ (k : ℕ). sets (sets l at (fours f)) k (fours (course_figures c))) (sym n)
    ∙ sym (sets_append (fours f) (fours (course_figures c)) l at)
    ∙ ap (λ (z : List ℕ). sets l at z) (sym (ap (λ (z : List Course). fours (courses_figures z)) e ∙ ap fours (courses_figures_append (take i cs) (c ∷ [])) ∙ fours_append f (course_figures c)))

-- the prefix, what stands before the courses, and the courses
pub layout_stored : (t : Tank) (x : Site) (a : Anchors) (cs : List Course) (l : List ℕ) {p q r : List ℕ} → whole_length Two (length cs) ≤ length l
    → p ≡ sets l 0 (prefix_of Two (length cs) t) → q ≡ sets p 31 (tail_head x a (length cs)) → r ≡ sets q 64 (fours (courses_figures cs))
    → r ≡ layout Two t x a cs ++ drop (whole_length Two (length cs)) l
layout_stored t x a cs l {p} {q} h i j k =
    let b = prefix_of Two (length cs) t in
    let s = tail_head x a (length cs) in
    let f = fours (courses_figures cs) in
    let m : 31 ≡ 0 + length b = omega (arith, prefix_length_lem Two (length cs) t) in
    let n : 64 ≡ 31 + length s = omega (arith, head_length x a (length cs)) in
    k
    ∙ ap (λ (z : List ℕ). sets z 64 f) j
    ∙ ap (λ (w : ℕ). sets (sets p 31 s) w f) n
    ∙ sym (sets_append s f p 31)
    ∙ ap (λ (z : List ℕ). sets z 31 (s ++ f)) i
    ∙ ap (λ (w : ℕ). sets (sets l 0 b) w (s ++ f)) m
    ∙ sym (sets_append b (s ++ f) l 0)
    ∙ all_stored l (layout Two t x a cs) (omega (arith, layout_length Two t x a cs))
    ∙ ap (λ (w : ℕ). layout Two t x a cs ++ drop w l) (layout_length Two t x a cs)
