-- `stability::anchors::pull` meets its contract: the products fit, so each number is read back from its bits. Assumes nothing.
use Prim.Native.Nat.{◌*◌}
use native.Mathlib.Nat.{mul-le-mul, mul-le-mul_left}
use native.Mathlib.Omega.{arith}
use mir.Syntax.{w64}
use mir.Facts.{to_z-of_z}
use Rattle.exact.proofs.Products.{mul_sfits}
use Rattle.exact.proofs.SignedLaws.{sub_fits}
use Rattle.stability.specs.Anchors.{fraction, pull_exact, pull_of}
use Rattle.stability.proofs.Bounds.{up_most, down_most}
use Rattle.stability.proofs.anchors.pull.Goals as goal

pub overflow_cast-up : goal.overflow_cast-up
overflow_cast-up c = mul_sfits (mul-le-mul_left 4800 c.requires.moment_le_most_moment) c.requires.weight_in.most_parts tt

pub overflow_cast-down-2 : goal.overflow_cast-down-2
overflow_cast-down-2 c = mul_sfits c.requires.weight_in.most c.requires.circle_in.1 tt

pub overflow_sub-up : goal.overflow_sub-up
overflow_sub-up c =
    let a = c.args in
    let w = fraction a.weight in
    rw (to_z-of_z (overflow_cast-up c), to_z-of_z (overflow_cast-down-2 c))
    (sub_fits (4800 * a.moment * w.den) (w.num * a.circle)
    (omega (arith, up_most a.moment w c.requires.moment_le_most_moment c.requires.weight_in, down_most w a.circle c.requires.weight_in c.requires.circle_in)))

pub overflow_cast-den-3 : goal.overflow_cast-den-3
overflow_cast-den-3 c = mul_sfits c.requires.weight_in.most_parts (mul-le-mul c.requires.count_in.1 c.requires.circle_in.1) tt

pub returns : goal.returns
unfolding pull_of pull_exact
returns c =
    -- the casts were proved before the call
    let s = c.before in
    rw (to_z-of_z {w = w64} {z = c.up_signed.result} (record { sfits = c.up_signed.type_inv }))
    (rw (to_z-of_z (overflow_sub-up s), to_z-of_z (overflow_cast-up s), to_z-of_z (overflow_cast-down-2 s), to_z-of_z (overflow_cast-den-3 s)) at c.up_signed.ensures)
