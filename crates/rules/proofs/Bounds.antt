-- The bounds of the rules' figures, stated once: each figure is at most its bound of `specs/Bounds.antt`, and both sides of a comparison are
-- below 2 ^ 53 with a capacity above 0.
-- Assumes nothing.
use mathlib.Core.Bool.{Bool, true, false, cond}
use Prim.Native.Nat.{ℕ, ◌*◌, ◌≤◌, ◌<◌}
use native.Mathlib.Nat.{lt_of_mul-lt-mul_right, mul-le-mul}
use native.Mathlib.Omega.{arith}
use lib.Dec.{leb}
use Rattle.exact.specs.Sides.{Sides}
use Rattle.exact.proofs.QuotientLaws.{up_least}
use Rattle.fields.specs.Range.{In}
use Rattle.rules.specs.Bounds.{most_height, most_moment, most_need, most_pressure, most_required}
use Rattle.rules.specs.Hoop.{head_of, design_head, hoop_exact, hoop_need, plate_margin, plate_floor, required_plate}
use Rattle.rules.specs.Wind.{pressure_of, moment_of}
use Rattle.rules.specs.declared.method.Method.{Method}
use Rattle.rules.specs.declared.method.Method.TheVariants.{D100, Api650}
use Rattle.rules.proofs.HoopLaws.{hoop_rounded, hoop_in_steps}

cond_most : (b : Bool) {x y most : ℕ} → x ≤ most → y ≤ most → cond b x y ≤ most
cond_most true p q = p
cond_most false p q = q

floor_most : (D : ℕ) → plate_floor D ≤ 313
unfolding plate_floor
floor_most D = cond_most (leb D 60000) (omega arith) (cond_most (leb D 144000) (omega arith) (omega arith))

pub need_most : (h D G s E : ℕ) → h ≤ most_height → In 1 D → In 20 G → In 18 s → In 19 E → hoop_need h D G s E ≤ most_need
unfolding hoop_exact plate_margin
need_most h D G s E a d g b e =
    let near : hoop_need h D G s E < 8658 =
    lt_of_mul-lt-mul_right (72 * s * E * 1000)
    (omega (arith, (hoop_rounded h D G s E (omega arith) (omega arith)).near, mul-le-mul (mul-le-mul a d.1) g.1, mul-le-mul b.0 e.0)) in
    omega (arith, near, hoop_in_steps h D G s E)

pub head_most : (H y : ℕ) → In 2 H → head_of H y ≤ most_height
unfolding head_of
head_most H y h = omega arith

pub design_head_most : (m : Method) (h : ℕ) → h ≤ most_height → design_head m h ≤ most_height
unfolding design_head
design_head_most D100 h l = l
design_head_most Api650 h l = omega arith

pub required_most : (need c D : ℕ) → need ≤ most_need → In 17 c → required_plate need c D ≤ most_required
unfolding required_plate
required_most need c D h k = omega (arith, floor_most D)

pub pressure_most : (Kz I v : ℕ) → In 8 Kz → In 9 I → In 7 v → pressure_of Kz I v ≤ most_pressure
unfolding pressure_of
pressure_most Kz I v k i w =
    omega (arith, up_least (6 * Kz * I * v * v) 390625 (omega arith) most_pressure (omega (arith, mul-le-mul (mul-le-mul k.1 i.1) (mul-le-mul w.1 w.1))))

pub moment_most : (p D Hs : ℕ) → p ≤ most_pressure → In 1 D → Hs ≤ most_height → moment_of p D Hs ≤ most_moment
unfolding moment_of
moment_most p D Hs a d h =
    up_least (p * D * Hs * Hs) 345600000000 (omega arith) most_moment (omega (arith, mul-le-mul (mul-le-mul a d.1) (mul-le-mul h h)))

pub course_sides : (required t : ℕ) → required ≤ most_required → In 16 t → Sides required t
course_sides required t h k = omega arith
