-- The overturning moment at the bottom of the shell, in foot-pounds: document 02, S-9; source 003, Eq 13-23,
-- Ms = √([Ai (Ws Xs + Wr Ht + Wi Xi)]² + [Ac Wc Xc]²).
use Rattle.std.specs.Prelude.{ℕ, ◌+◌, ◌*◌}
use Rattle.exact.specs.Quotient.{Ratio, whole, plus, up_of}
use Rattle.exact.specs.Fraction.{times, squared}
use Rattle.exact.specs.Root.{root_up}
use Rattle.fields.specs.Units.{feet, thousandths}
use Rattle.slender.specs.Weights.{impulsive_exact, impulsive_weight, impulsive_height, convective_exact, convective_weight, convective_height}
use Rattle.slender.specs.declared.tank.Contents.{Contents}
use Rattle.slender.specs.declared.tank.Load.{Load}
use Rattle.slender.specs.declared.tank.SlenderTank.{SlenderTank}
use Rattle.slender.specs.declared.tank.Accelerations.{Accelerations}

-- Ws Xs, and Wr Ht; here the roof has a height of its own, too
abbrev pub load_moment : Load → Ratio
load_moment load = times (whole load.weight) (feet load.height)

-- Ai (Ws Xs + Wr Ht + Wi Xi) of any weight for Wi, and Ac Wc Xc of any for Wc: with the exact weights nothing in them is rounded
unfoldable pub impulsive_with : SlenderTank → ℕ → Ratio → Ratio
impulsive_with t Ai Wi =
    times (thousandths Ai) (plus (plus (load_moment t.shell) (load_moment t.roof)) (times Wi (impulsive_height t.contents)))

unfoldable pub convective_with : Contents → ℕ → Ratio → Ratio
convective_with c Ac Wc = times (thousandths Ac) (times Wc (convective_height c))

-- of the rounded weights, "each once to a foot-pound", up
unfoldable pub impulsive_moment : SlenderTank → ℕ → ℕ
impulsive_moment t Ai = let f = impulsive_with t Ai (whole (impulsive_weight t.contents)) in up_of f.num f.den

unfoldable pub convective_moment : Contents → ℕ → ℕ
convective_moment c Ac = let f = convective_with c Ac (whole (convective_weight c)) in up_of f.num f.den

-- the sum of the two moments' squares, and "the root of the sum of squares likewise"
unfoldable pub moments_squared : SlenderTank → Accelerations → ℕ
moments_squared t g =
    let i = impulsive_moment t g.impulsive in
    let c = convective_moment t.contents g.convective in
    i * i + c * c

unfoldable pub moment_of : SlenderTank → Accelerations → ℕ
moment_of t g = root_up (moments_squared t g)

-- "the unrounded figure", by its square
unfoldable pub unrounded_square : SlenderTank → Accelerations → Ratio
unrounded_square t g =
    plus
    (squared (impulsive_with t g.impulsive (impulsive_exact t.contents)))
    (squared (convective_with t.contents g.convective (convective_exact t.contents)))
