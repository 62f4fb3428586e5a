-- What the promise on the allowed stress comes to for a tank whose argument is just 0.0640 (H 37,671, D 32,000, net plate 433), from the clause
-- alone: a clause that says less, or nothing, no longer gives these numbers.
-- Assumes nothing.
use Rattle.std.specs.Prelude.{Ok}
use mathlib.Core.Path.{◌≡◌}
use mathlib.Core.List.{◌∷◌}
use Prim.Native.Nat.{ℕ, ◌*◌, ◌≤◌}
use native.Mathlib.Nat.{le-div_iff_mul-le}
use native.Mathlib.Omega.{arith}
use lib.Dec.{leb→le, lit<}
use lib.ListN.{replicate}
use Rattle.exact.specs.Quotient.{Ratio}
use Rattle.exact.specs.Fraction.{◌over◌}
use Rattle.buckling.specs.Coefficient.{argument_exact}
use Rattle.buckling.specs.Allowed.{local_buckling, allowed_exact}
use Rattle.entries.specs.Sheet.{blank_course, no_anchors}
use Rattle.entries.specs.declared.sheet.Anchors.{Anchors}
use Rattle.entries.specs.declared.sheet.Course.{Course}
use Rattle.entries.specs.declared.complete.Entries.{Entries}
use Rattle.compression.specs.Compression.{PrintedHelp, ReplyJustified}
use Rattle.compression.specs.declared.question.Stresses.{Stresses}

abbrev at_limit : Anchors → Entries
at_limit a =
    let c : Course = record { width = 9600; plate = 500; allowance = 67; stress = 15000; efficiency = 85 } in
    record {
      tank = record { diameter = 32000; level = 37671; weight = 11000; plate = 250; allowance = 0; fy = 36000; gravity = 1000 };
      site = record { speed = 105; exposure = 109; importance = 115; vertical = 27; moment = 0 };
      anchors = a;
      courses = c ∷ c ∷ c ∷ c ∷ replicate 8 blank_course;
      count = 4;
      height = 38400;
    }

-- 0.72 × 0.064 ^ 0.84 is between 0.071535838 and this
abbrev just_above : Ratio
just_above = 71535839 over 1000000000

printed_help : PrintedHelp (at_limit no_anchors) just_above
unfolding argument_exact
printed_help z = (leb→le _ _ tt, leb→le _ _ tt)

-- the printed equations give 12,366.6,
pub self_anchored_at_limit : (v : Stresses) → ReplyJustified (at_limit no_anchors) (Ok v) → v.allowed ≤ 12366
unfolding allowed_exact local_buckling
self_anchored_at_limit v j =
    let f = allowed_exact just_above 32000 433 in
    (le-div_iff_mul-le {x = v.allowed} {y = f.num * 1} (lit< {m = 0} {n = f.den} tt)).1 (j.never_above just_above printed_help)

-- and for an anchored tank 8,624.8
pub anchored_at_limit : (v : Stresses) → ReplyJustified (at_limit (record { number = 6; circle = 32800; size = 8 })) (Ok v) → v.allowed ≤ 8624
unfolding allowed_exact local_buckling
anchored_at_limit v j = omega (arith, j.never_above (0 over 1) (λ z. absurd (let y : ◌≡◌ {A = ℕ} 6 0 = z in omega (arith, y))))
