-- The laws of the height of a list of courses.
-- Assumes nothing.
use mathlib.Core.Path.{◌≡◌, ap, ◌∙◌}
use mathlib.Core.List.{List, [], ◌∷◌, ◌++◌}
use Prim.Native.Nat.{ℕ, ◌+◌, ◌≤◌, ◌<◌}
use native.Mathlib.Numerals.{add-one}
use native.Mathlib.Omega.{arith}
use lib.ListN.{length, get_or, set, take, drop, take-append-drop}
use lib.Seq.{take-suc, take-suc-set, take-take, get_or-take, length-take-le}
use Rattle.std.proofs.lemmas.List.Sums.{sum_by-append, sum_by-cons}
use Rattle.entries.specs.Sheet.{blank_course, height_of}
use Rattle.entries.specs.declared.sheet.Course.{Course}

pub height_append : (xs ys : List Course) → height_of (xs ++ ys) ≡ height_of xs + height_of ys
height_append xs ys = sum_by-append (λ (c : Course). c.width) xs ys

pub height_cons : (c : Course) (cs : List Course) → height_of (c ∷ cs) ≡ c.width + height_of cs
height_cons = sum_by-cons (λ (c : Course). c.width)

-- one course more
pub height_next : (cs : List Course) (i : ℕ) → i < length cs → height_of (take (i + 1) cs) ≡ height_of (take i cs) + (get_or cs i blank_course).width
height_next cs i h =
    rw (add-one i, take-suc cs i blank_course h)
    (omega (arith, height_append (take i cs) (get_or cs i blank_course ∷ [])))

-- and in the slot after those held
pub take_set : (cs : List Course) (i : ℕ) (c : Course) → i < length cs → take (i + 1) (set cs i c) ≡ take i cs ++ (c ∷ [])
take_set cs i c h = rw (add-one i) (take-suc-set cs i c h)

pub height_set : (cs : List Course) (i : ℕ) (c : Course) → i < length cs → height_of (take (i + 1) (set cs i c)) ≡ height_of (take i cs) + c.width
height_set cs i c h = ap height_of (take_set cs i c h) ∙ omega (arith, height_append (take i cs) (c ∷ []))

-- a course's top edge is no higher than the shell
pub top_within : (cs : List Course) (i n : ℕ) → i < n → n ≤ length cs
    → height_of (take i cs) + (get_or cs i blank_course).width ≤ height_of (take n cs)
top_within cs i n h l =
    let p = take n cs in
    let long : length p ≡ n = length-take-le n cs l in
    omega (
      arith,
      height_next p i (omega (arith, long)),
      ap height_of (take-take i n cs (omega arith)),
      ap (λ (c : Course). c.width) (get_or-take n cs i blank_course h),
      ap height_of (take-append-drop (i + 1) p),
      height_append (take (i + 1) p) (drop (i + 1) p),
    )
