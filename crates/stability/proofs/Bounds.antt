-- The bounds of the figures of stability, stated once: each figure is at most its bound of `specs/Bounds.antt`, T is above 0, and both sides
-- of every comparison are below 2 ^ 53 with a capacity above 0.
-- Assumes nothing.
use Prim.Native.Nat.{ℕ, ◌+◌, ◌-◌, ◌*◌, ◌≤◌, ◌<◌}
use native.Mathlib.Nat.{add-le-add, le-min, lt_of_le_of_lt, max-le, mul-le-mul, mul-le-mul_left, mul-le-mul_right, mul-pos, sub-le}
use native.Mathlib.Omega.{arith}
use lib.Dec.{lit<}
use lib.IntN.{ℤ}
use Rattle.exact.specs.Quotient.{Ratio, whole, positive_part}
use Rattle.exact.specs.Sides.{Sides}
use Rattle.exact.proofs.QuotientLaws.{down_safe, down_greatest}
use Rattle.exact.proofs.RootLaws.{root_greatest}
use Rattle.fields.specs.Range.{range, In}
use Rattle.rules.specs.Bounds.{most_moment}
use Rattle.stability.specs.Anchors.{reduced_weight, pull_of, larger_pull}
use Rattle.stability.specs.Bounds.{WeightIn, most_bottom, most_down, most_plate, most_pull, most_resistance, most_shell, most_up, most_yield}
use Rattle.stability.specs.Earthquake.{shell_exact, shell_weight, root_yield, root_most, bottom_root, cap_exact, bottom_cap, bottom_weight, resistance_of}
use Rattle.stability.proofs.AnchorLaws.{pull_least, larger_is}
use Rattle.stability.proofs.EarthquakeLaws.{root_fits}

-- ---- the upper bound of each figure

pub shell_most : (W Av D : ℕ) → In 3 W → In 1 D → shell_weight W Av D ≤ most_shell
unfolding shell_weight shell_exact
shell_most W Av D w d =
    let wt = shell_weight W Av D in
    let net : 10000 - 4 * Av ≤ 10000 = omega arith in
    omega (arith, down_safe (2712000 * W * (10000 - 4 * Av)) (710000 * D) (omega arith), mul-le-mul w.1 net, mul-le-mul_left wt d.0)

-- the yield in the root is no less than the least Fy
abbrev pub least_yield : ℕ
least_yield = (range 6).least

pub yield_least : (Fy G : ℕ) → In 6 Fy → In 20 G → least_yield ≤ root_yield Fy G
unfolding root_yield
yield_least Fy G f g = omega (arith, mul-le-mul f.0 g.0)

pub yield_most : (Fy G : ℕ) → In 6 Fy → In 20 G → root_yield Fy G ≤ most_yield
unfolding root_yield
yield_most Fy G f g = omega (arith, mul-le-mul f.1 g.1)

pub bottom_most : (tb yield H D G : ℕ) → In 2 H → In 1 D → In 20 G → bottom_weight tb yield H D G ≤ most_bottom
unfolding bottom_weight bottom_cap cap_exact
bottom_most tb yield H D G h d g =
    omega (arith, down_safe (H * D * G) 11250000 (omega arith), mul-le-mul (mul-le-mul h.1 d.1) g.1)

pub resistance_most : (D wt wL : ℕ) → In 1 D → wt ≤ most_shell → wL ≤ most_bottom → resistance_of D wt wL ≤ most_resistance
unfolding resistance_of
resistance_most D wt wL d a b =
    omega (arith, down_safe (D * D * (wt + wL)) 144000000 (omega arith), mul-le-mul (mul-le-mul d.1 d.1) (add-le-add a b))

pub whole_weight_in : (W : ℕ) → In 3 W → WeightIn (whole W)
whole_weight_in W h = omega arith

pub reduced_weight_in : (W Av : ℕ) → In 3 W → WeightIn (reduced_weight W Av)
unfolding reduced_weight
reduced_weight_in W Av h = record { most = mul-le-mul h.1 (sub-le 10000 _); parts = omega arith; most_parts = omega arith }

pub up_most : (moment : ℕ) (w : Ratio) → moment ≤ most_moment → WeightIn w → 4800 * moment * w.den ≤ most_up
up_most moment w h i = mul-le-mul (mul-le-mul_left 4800 h) i.most_parts

pub down_most : (w : Ratio) (B : ℕ) → WeightIn w → In 13 B → w.num * B ≤ most_down
down_most w B i b = mul-le-mul i.most b.1

pub pull_most : (moment : ℕ) (w : Ratio) (B N : ℕ) → moment ≤ most_moment → 0 < w.den → 0 < B → In 12 N
    → positive_part (pull_of moment w B N) ≤ most_pull
pull_most moment w B N h o b n =
    pull_least moment w B N o (omega arith) b most_pull
    (omega (arith, mul-le-mul_right w.den h, mul-le-mul_left w.den (mul-le-mul n.0 b)))

pub larger_most : (a b : ℤ) → positive_part a ≤ most_pull → positive_part b ≤ most_pull → larger_pull a b ≤ most_pull
larger_most a b h k = rw larger_is (max-le h k)

-- ---- T is above 0 for every sheet: wL alone is above 0, and D × D is at least 144,000,000

bottom_above : (tb yield H D G : ℕ) → 0 < tb → tb ≤ most_plate → least_yield ≤ yield → yield ≤ most_yield → In 2 H → In 1 D → In 20 G
    → 0 < bottom_weight tb yield H D G
unfolding bottom_weight bottom_root bottom_cap cap_exact root_most
bottom_above tb yield H D G p t l f h d g =
    le-min
    (root_greatest 12000000 (6241 * tb * tb * yield * H) (omega arith) (root_fits tb yield H t f h) 1
    (omega (arith, mul-le-mul (mul-le-mul p p) (mul-le-mul l h.0))))
    (down_greatest (H * D * G) 11250000 (omega arith) 1 (omega (arith, mul-le-mul (mul-le-mul h.0 d.0) g.0)))

pub resistance_above : (W Av D H G tb yield : ℕ) → 0 < tb → tb ≤ most_plate → least_yield ≤ yield → yield ≤ most_yield → In 2 H → In 1 D → In 20 G
    → 0 < resistance_of D (shell_weight W Av D) (bottom_weight tb yield H D G)
unfolding resistance_of
resistance_above W Av D H G tb yield p t l f h d g =
    let sum = shell_weight W Av D + bottom_weight tb yield H D G in
    let some : 1 ≤ sum = omega (arith, bottom_above tb yield H D G p t l f h d g) in
    down_greatest (D * D * sum) 144000000 (omega arith) 1 (omega (arith, mul-le-mul (mul-le-mul d.0 d.0) some))

-- ---- the two sides of each comparison (a field that no range is asked of is a u32)

pub self_wind_sides : (M W D : ℕ) → M ≤ most_moment → In 3 W → In 1 D → Sides (3600 * M) (W * D)
self_wind_sides M W D h w d = record {
  need_exact = omega arith;
  capacity_exact = lt_of_le_of_lt (mul-le-mul w.1 d.1) (lit< tt);
  capacity_above = mul-pos w.0 (omega arith);
}

pub quake_sides : (Ms T : ℕ) → Ms < 4294967296 → 0 < T → T ≤ most_resistance → Sides (1000 * Ms) (1540 * T)
quake_sides Ms T h p k = omega arith

pub lift_sides : (Ms T : ℕ) → In 11 Ms → 0 < T → T ≤ most_resistance → Sides (1000 * Ms) (785 * T)
lift_sides Ms T h p k = omega arith

pub spacing_sides : (B N : ℕ) → B < 4294967296 → In 12 N → Sides (355 * B) (1356000 * N)
spacing_sides B N h k = omega arith

pub strength_sides : (pull A : ℕ) → pull ≤ most_pull → 0 < A → A < 4294967296 → Sides (1000 * pull) (19950 * A)
strength_sides pull A h p k = omega arith
