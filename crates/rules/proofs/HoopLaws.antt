-- The hoop need is on the safe side of its exact fraction and within its margin, and no other multiple of 5 is; a plate is at least the
-- required one exactly when it is at least the need with the allowance and at least the floor. And what a method takes of h.
-- Assumes nothing.
use mathlib.Core.List.{[], ◌∷◌, map}
use mathlib.Core.Path.{◌≡◌, refl, ap}
use Prim.Native.Nat.{ℕ, ◌+◌, ◌*◌, ◌%◌, ◌≤◌, ◌<◌}
use native.Mathlib.Nat.{mul-mod_right, mul-pos}
use native.Mathlib.Omega.{arith}
use Rattle.exact.specs.Quotient.{up_of, up_to, AtLeast}
use Rattle.exact.proofs.QuotientLaws.{rounded_up_to, rounded_up_to_only, up_same}
use Rattle.rules.specs.Hoop.{design_head, hoop_exact, mill_step, hoop_need, plate_margin, plate_floor, required_plate}
use Rattle.rules.specs.declared.method.Method.TheVariants.{D100, Api650}

-- what a method takes of h: D100 all of it; API 650 "(h - 1 ft)", and "zero when h is one foot or less"
pub whole_head : (h : ℕ) → design_head D100 h ≡ h
unfolding design_head
whole_head h = refl

pub foot_less : (h : ℕ) → design_head Api650 (h + 1200) ≡ h
unfolding design_head
foot_less h = omega arith

pub first_foot : (h : ℕ) → h ≤ 1200 → design_head Api650 h ≡ 0
unfolding design_head
first_foot h l = omega arith

-- the need where the exact one, h / 250, is 0 and just above it, and just below, at and just above 200
pub needs_printed : map (λ (h : ℕ). hoop_need h 14400 1000 13000 50) (0 ∷ 1 ∷ 49999 ∷ 50000 ∷ 50001 ∷ []) ≡ 0 ∷ 5 ∷ 200 ∷ 200 ∷ 205 ∷ []
unfolding hoop_exact hoop_need up_to up_of
needs_printed = refl

-- and where it is 160 × G / 1,000: of water, just below, at and just above 200, and of the heaviest liquor
pub needs_by_gravity : map (λ (G : ℕ). hoop_need 40000 14400 G 13000 50) (1000 ∷ 1249 ∷ 1250 ∷ 1251 ∷ 1300 ∷ []) ≡ 160 ∷ 200 ∷ 200 ∷ 205 ∷ 210 ∷ []
unfolding hoop_exact hoop_need up_to up_of
needs_by_gravity = refl

-- the divisors are above 0
pub hoop_den : (h D G s E : ℕ) → 0 < s → 0 < E → 0 < (hoop_exact h D G s E).den
unfolding hoop_exact
hoop_den h D G s E p q = mul-pos (mul-pos (omega arith) q) (omega arith)

pub plate_margin_den : 0 < plate_margin.den
unfolding plate_margin
plate_margin_den = omega arith

pub hoop_rounded : (h D G s E : ℕ) → 0 < s → 0 < E → AtLeast (hoop_exact h D G s E) plate_margin (hoop_need h D G s E)
unfolding hoop_exact hoop_need plate_margin
hoop_rounded h D G s E p q =
    let r = rounded_up_to mill_step (hoop_exact h D G s E) (omega arith) (hoop_den h D G s E p q) in
    record { safe = omega (arith, r.safe); near = omega (arith, r.near) }

-- the need is a multiple of 5, and no other one is so near
pub hoop_in_steps : (h D G s E : ℕ) → hoop_need h D G s E % 5 ≡ 0
unfolding hoop_need up_to
hoop_in_steps h D G s E = mul-mod_right 5 _

pub hoop_only : (h D G s E q : ℕ) → 0 < s → 0 < E → AtLeast (hoop_exact h D G s E) plate_margin (5 * q) → 5 * q ≡ hoop_need h D G s E
unfolding hoop_exact hoop_need plate_margin
hoop_only h D G s E q p r a = rounded_up_to_only mill_step (hoop_exact h D G s E) q (omega arith) (hoop_den h D G s E p r) a

-- of water (gravity 1,000) it is 13 × h × D / (72 × s × E), rounded up to a multiple of 5
pub water_need : (h D s E : ℕ) → 0 < s → 0 < E → hoop_need h D 1000 s E ≡ up_to 5 (13 * h * D) (72 * s * E)
unfolding hoop_exact hoop_need up_to
water_need h D s E p q =
    let f = hoop_exact h D 1000 s E in
    let d : 0 < 5 * (72 * s * E) = mul-pos (omega arith) (mul-pos (mul-pos (omega arith) p) q) in
    ap (λ (n : ℕ). 5 * n) (up_same f.num (5 * f.den) (13 * h * D) (5 * (72 * s * E)) (omega arith) d (omega arith))

-- the floor as document 01 has it, at either side of each step
pub floors_printed : map plate_floor (60000 ∷ 60001 ∷ 144000 ∷ 144001 ∷ []) ≡ 188 ∷ 250 ∷ 250 ∷ 313 ∷ []
unfolding plate_floor
floors_printed = refl

-- the need with c beside the floor, which is no multiple of 5, and past it
pub required_printed : map (λ (c : ℕ). required_plate 150 c 60000) (0 ∷ 37 ∷ 38 ∷ 39 ∷ 41 ∷ []) ≡ 188 ∷ 188 ∷ 188 ∷ 189 ∷ 191 ∷ []
unfolding required_plate plate_floor
required_printed = refl

pub required_meets : (need c D t : ℕ) → required_plate need c D ≤ t → (need + c ≤ t) × (plate_floor D ≤ t)
unfolding required_plate
required_meets need c D t h = omega arith

pub required_least : (need c D t : ℕ) → need + c ≤ t → plate_floor D ≤ t → required_plate need c D ≤ t
unfolding required_plate
required_least need c D t h k = omega arith
