-- The printed power, 0.72 x^0.84 to the 25th: it grows with its argument, and its divisor is above 0.
-- Assumes nothing.
use Prim.Native.Nat.{◌^◌, ◌<◌}
use native.Mathlib.Nat.{mul-le-mul, one-le-pow}
use lib.Dec.{lit<}
use Rattle.exact.specs.Quotient.{Ratio}
use Rattle.exact.specs.Fraction.{◌over◌, power, ◌≤ʳ◌}
use Rattle.exact.proofs.FractionLaws.{≤ʳ-refl, times_le, power_le}
use Rattle.buckling.specs.Coefficient.{printed_power}

pub printed_grows : (x y : Ratio) → x ≤ʳ y → printed_power x ≤ʳ printed_power y
printed_grows x y h =
    let c = power (72 over 100) 25 in
    times_le c c (power x 21) (power y 21) (≤ʳ-refl c) (power_le 21 x y h)

pub power_above : (x : Ratio) → 0 < x.den → 0 < (printed_power x).den
power_above x p = mul-le-mul (lit< {m = 0} {n = 100 ^ 25} tt) (one-le-pow 21 x.den p)
