-- A size that is in the chart has a stress area above 0, and no size has more than 2,500. Size 6, in the chart, is discontinued, and no other.
-- Assumes nothing.
use mathlib.Core.Path.{◌≡◌, refl, ap}
use mathlib.Core.Bool.{Bool, true, false, cond, ◌&&◌, ◌||◌}
use mathlib.Core.List.{List, [], ◌∷◌, map}
use Prim.Native.Nat.{ℕ, ◌≤◌, ◌<◌}
use native.Mathlib.Omega.{arith}
use lib.Dec.{T, leb, ltb, eqb, leb→le, ltb→lt}
use mir.Facts.{and_yes}
use Rattle.std.specs.Prelude.{Option, Some, None, SomeIff}
use Rattle.fields.specs.Bolt.{Bolt, chart, area_in, size_in, in_chart, stress_area, discontinued}

-- the test of one bolt, an area from 1 to 2,500, and of all
abbrev fair : Bolt → Bool
fair b = ltb 0 b.area && leb b.area 2500

abbrev all_fair : List Bolt → Bool
all_fair [] = true
all_fair (b ∷ bs) = fair b && all_fair bs

above : (bs : List Bolt) (d : ℕ) → T (all_fair bs) → T (size_in bs d) → 0 < area_in bs d
above [] d s t = absurd t
above (b ∷ bs) d s t = go (eqb d b.size) t (above bs d (and_yes (fair b) (all_fair bs) s).1)
  where
    go : (e : Bool) → T (e || size_in bs d) → (T (size_in bs d) → 0 < area_in bs d) → 0 < cond e b.area (area_in bs d)
    go true t r = ltb→lt 0 b.area (and_yes (ltb 0 b.area) (leb b.area 2500) (and_yes (fair b) (all_fair bs) s).0).0
    go false t r = r t

most : (bs : List Bolt) (d : ℕ) → T (all_fair bs) → area_in bs d ≤ 2500
most [] d s = omega arith
most (b ∷ bs) d s = go (eqb d b.size) (most bs d (and_yes (fair b) (all_fair bs) s).1)
  where
    go : (e : Bool) → area_in bs d ≤ 2500 → cond e b.area (area_in bs d) ≤ 2500
    go true r = leb→le b.area 2500 (and_yes (ltb 0 b.area) (leb b.area 2500) (and_yes (fair b) (all_fair bs) s).0).1
    go false r = r

pub stress_area_above : (d : ℕ) → T (in_chart d) → 0 < stress_area d
unfolding in_chart stress_area
stress_area_above d t = above chart d tt t

pub stress_area_most : (d : ℕ) → stress_area d ≤ 2500
unfolding stress_area
stress_area_most d = most chart d tt

-- document 02, S-10: of the chart's sizes the first, 6, is discontinued, and no other
pub size_6_alone : map (λ (b : Bolt). discontinued b.size) chart
    ≡ true ∷ false ∷ false ∷ false ∷ false ∷ false ∷ false ∷ false ∷ false ∷ []
size_6_alone = refl

-- the area that the chart gives of a size that it has
pub charted : {o : Option ℕ} {P : Type 0} {v : ℕ} → SomeIff o P v → P → o ≡ Some v
charted {o = None} h p = absurd (h p)
charted {o = Some a} h p = ap Some h.1
