-- The weights and the resistance are on the safe side of their exact values and within their margins. `resistance_safe`: whatever T
-- bears, the exact resistance, rounded in nothing but the yield, bears. `resistance_near`: what that bears with its margin added, T bears.
-- Assumes nothing.
use mathlib.Core.Path.{◌≡◌, refl}
use mathlib.Core.List.{[], ◌∷◌}
use mathlib.Core.Logic.{◌⊎◌, inl, inr}
use Prim.Native.Nat.{ℕ, ◌+◌, ◌-◌, ◌*◌, ◌^◌, ◌≤◌, ◌<◌}
use native.Mathlib.Nat.{le_of_lt, le_trans, min-eq_left, min-le_left, lt_of_le_of_lt, lt_of_not-le, not-le_of_lt, mul-le-mul, mul-le-mul_right, mul-pos}
use native.Mathlib.Decide.{dec_le}
use native.Mathlib.Omega.{arith}
use lib.Dec.{lit<}
use Rattle.exact.specs.Quotient.{Ratio, whole, plus, down_of, AtMost}
use Rattle.exact.proofs.QuotientLaws.{rounded_down, down_safe, down_near, down_same}
use Rattle.exact.proofs.RootLaws.{root_safe, root_near}
use Rattle.fields.specs.Range.{In}
use Rattle.stability.specs.Bounds.{most_plate, most_yield}
use Rattle.stability.specs.Earthquake.{shell_exact, shell_weight, root_yield, root_most, bottom_root, cap_exact, bottom_cap, bottom_weight, resistance_of, Carried, Resists, resistance_margin}

pub shell_den : (W Av D : ℕ) → 0 < D → 0 < (shell_exact W Av D).den
unfolding shell_exact
shell_den W Av D p = omega arith

pub shell_rounded : (W Av D : ℕ) → 0 < D → AtMost (shell_exact W Av D) (whole 1) (shell_weight W Av D)
unfolding shell_exact shell_weight
shell_rounded W Av D p = rounded_down (shell_exact W Av D) (shell_den W Av D p)

pub cap_rounded : (H D G : ℕ) → AtMost (cap_exact H D G) (whole 1) (bottom_cap H D G)
unfolding cap_exact bottom_cap
cap_rounded H D G = rounded_down (cap_exact H D G) (omega arith)

-- of water (gravity 1,000) the yield is Fy and the cap document 01's
pub water_yield : (Fy : ℕ) → root_yield Fy 1000 ≡ Fy
unfolding root_yield
water_yield Fy = omega arith

pub water_cap : (H D : ℕ) → bottom_cap H D 1000 ≡ down_of (H * D) 11250
unfolding cap_exact bottom_cap
water_cap H D = down_same (H * D * 1000) 11250000 (H * D) 11250 (omega arith) (omega arith) (omega arith)

-- Yields of water and of liquor at literal numbers, so that no other rounding of them passes in definition and code alike: report and exact
-- rules take the same.
pub yields_computed :
    root_yield 36000 1000 ∷ root_yield 36001 1137 ∷ root_yield 30001 1300 ∷ root_yield 49999 1299 ∷ root_yield 50000 1300 ∷ []
    ≡ 36000 ∷ 40933 ∷ 39001 ∷ 64948 ∷ 65000 ∷ []
unfolding root_yield
yields_computed = refl

-- with fields in range the number under the root fits 64 bits
pub root_fits : (tb yield H : ℕ) → tb ≤ most_plate → yield ≤ most_yield → In 2 H → root_most tb yield H < 2 ^ 64
unfolding root_most
root_fits tb yield H t f h =
    lt_of_le_of_lt (mul-le-mul (mul-le-mul (mul-le-mul {n₂ = 3120500} (omega arith) t) f) h.1) (lit< tt)

-- ---- the arithmetic of T, over plain numbers: D2 is D × D, wt is wn / wd rounded down, and most and cap bound wL

square_safe : (x y w most : ℕ) → x ≤ y * w → 12000000 * w * w ≤ most → 12000000 * (x * x) ≤ most * (y * y)
square_safe x y w most h k = omega (arith, mul-le-mul h h, mul-le-mul_right (y * y) k)

square_near : (x y w most : ℕ) → 0 < y → y * (w + 1) ≤ x → most < 12000000 * (w + 1) * (w + 1) → most * (y * y) < 12000000 * (x * x)
square_near x y w most p h k = omega (arith, mul-le-mul h h, mul-le-mul_right (y * y) k, mul-pos p p)

module _ (a b D2 wn wd wt wL T : ℕ) where
  bears : a ≤ T * b → T * 144000000 ≤ D2 * (wt + wL) → wt * wd ≤ wn
      → 144000000 * a * wd ≤ wn * (b * D2) + b * D2 * wd * wL
  bears h t w = omega (arith, mul-le-mul_right wd h, mul-le-mul_right (b * wd) t, mul-le-mul_right (b * D2) w)

  exceeds : 0 < b → 0 < wd → T * b ≤ a → D2 * (wt + wL) < T * 144000000 + 144000000 → wn < wt * wd + wd
      → wn * (b * 72000000 * D2) + b * 72000000 * D2 * wd * (wL + 1) < 144000000 * (a * 72000000 + (D2 + 72000000) * b) * wd
  exceeds p q h t w =
      omega (arith, mul-le-mul_right wd h, mul-le-mul_right (b * wd) t, mul-le-mul_right (b * D2) w, mul-pos p q)

module _ (asked held y w most : ℕ) (cap : Ratio) where
  carried_safe : asked ≤ held + y * w → w * cap.den ≤ cap.num → 12000000 * w * w ≤ most → Carried asked held y most cap
  carried_safe h c r =
      record { by_cap = omega (arith, mul-le-mul_right cap.den h, mul-le-mul_right y c); by_root = go (dec_le asked held) }
    where
      go : Dec (asked ≤ held) → (asked ≤ held) ⊎ (12000000 * ((asked - held) * (asked - held)) ≤ most * (y * y))
      go (yes k) = inl k
      go (no k) = inr (square_safe (asked - held) y w most (omega arith) r)

  carried_near : 0 < y → held + y * (w + 1) < asked → (cap.num < (w + 1) * cap.den) ⊎ (most < 12000000 * (w + 1) * (w + 1))
      → Carried asked held y most cap → ⊥
  carried_near p h (inl c) k = omega (arith, mul-le-mul_right cap.den h, mul-le-mul_right y c, k.by_cap)
  carried_near p h (inr r) k = go k.by_root
    where
      go : (asked ≤ held) ⊎ (12000000 * ((asked - held) * (asked - held)) ≤ most * (y * y)) → ⊥
      go (inl l) = omega arith
      go (inr l) = not-le_of_lt (square_near (asked - held) y w most p (omega arith) r) l

-- ---- wL is at most both of its bounds, and within one of the smaller

module _ (D H G tb yield : ℕ) where
  below_cap : bottom_weight tb yield H D G * (cap_exact H D G).den ≤ (cap_exact H D G).num
  unfolding bottom_weight cap_exact
  below_cap = omega (arith, (cap_rounded H D G).safe)

module _ (D H G tb yield : ℕ) (fits : root_most tb yield H < 2 ^ 64) where
  below_root : 12000000 * bottom_weight tb yield H D G * bottom_weight tb yield H D G ≤ root_most tb yield H
  unfolding bottom_weight bottom_root
  below_root =
      let w = bottom_weight tb yield H D G in
      let l : w ≤ bottom_root tb yield H = min-le_left (bottom_root tb yield H) (bottom_cap H D G) in
      le_trans (omega (arith, mul-le-mul l l)) (root_safe 12000000 (root_most tb yield H) (omega arith) fits)

  near_one : ((cap_exact H D G).num < (bottom_weight tb yield H D G + 1) * (cap_exact H D G).den)
      ⊎ (root_most tb yield H < 12000000 * (bottom_weight tb yield H D G + 1) * (bottom_weight tb yield H D G + 1))
  unfolding bottom_weight bottom_root cap_exact
  near_one = go (dec_le (bottom_cap H D G) (bottom_root tb yield H))
    where
      go : Dec (bottom_cap H D G ≤ bottom_root tb yield H)
          → ((cap_exact H D G).num < (bottom_weight tb yield H D G + 1) * (cap_exact H D G).den)
          ⊎ (root_most tb yield H < 12000000 * (bottom_weight tb yield H D G + 1) * (bottom_weight tb yield H D G + 1))
      go (yes k) = inl (omega (arith, (cap_rounded H D G).near))
      go (no k) =
          inr (rw (min-eq_left (le_of_lt (lt_of_not-le k))) (root_near 12000000 (root_most tb yield H) (omega arith) fits))

-- ---- T

module _ (W Av D H G tb yield : ℕ) (d : 0 < D) (fits : root_most tb yield H < 2 ^ 64) (f : Ratio) where
  pub resistance_safe : f.num ≤ resistance_of D (shell_weight W Av D) (bottom_weight tb yield H D G) * f.den → Resists W Av D H G tb yield f
  unfolding Resists resistance_of cap_exact
  resistance_safe h =
      let wt = shell_exact W Av D in
      let w = bottom_weight tb yield H D G in
      let sum = shell_weight W Av D + w in
      carried_safe _ _ _ w _ _
      (bears f.num f.den (D * D) wt.num wt.den (shell_weight W Av D) w _ h
      (down_safe (D * D * sum) 144000000 (omega arith)) (shell_rounded W Av D d).safe)
      (below_cap D H G tb yield) (below_root D H G tb yield fits)

  pub resistance_near : 0 < f.den → Resists W Av D H G tb yield (plus f (resistance_margin D))
      → f.num < resistance_of D (shell_weight W Av D) (bottom_weight tb yield H D G) * f.den
  unfolding Resists resistance_margin resistance_of cap_exact
  resistance_near p k = go (dec_le (T * f.den) f.num)
    where
      wt : Ratio
      wt = shell_exact W Av D

      w : ℕ
      w = bottom_weight tb yield H D G

      T : ℕ
      T = resistance_of D (shell_weight W Av D) w

      wd : 0 < wt.den
      wd = shell_den W Av D d

      go : Dec (T * f.den ≤ f.num) → f.num < T * f.den
      go (no l) = lt_of_not-le l
      go (yes l) =
          absurd (carried_near _ _ _ w _ _ (mul-pos (mul-pos (omega arith) (mul-pos d d)) wd)
          (exceeds f.num f.den (D * D) wt.num wt.den (shell_weight W Av D) w T p wd l
          (down_near (D * D * (shell_weight W Av D + w)) 144000000 (omega arith)) (omega (arith, (shell_rounded W Av D d).near)))
          (near_one D H G tb yield fits) k)

pub resistance_margin_den : (D : ℕ) → 0 < (resistance_margin D).den
unfolding resistance_margin
resistance_margin_den D = omega arith
