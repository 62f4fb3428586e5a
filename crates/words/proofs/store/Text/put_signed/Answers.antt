-- `words::store::Text::put_signed` meets its contract. Assumes nothing.
use mathlib.Core.Path.{ap, sym, ◌∙◌}
use mathlib.Core.List.{◌∷◌}
use native.Mathlib.Omega.{arith}
use Rattle.words.specs.Decimal.{decimal}
use Rattle.words.proofs.DecimalLaws.{decimal_most, signed_below}
use Rattle.words.proofs.StoreLaws.{then, at_most}
use Rattle.words.proofs.store.Text.put_signed.Goals as goal

pub put_decimal-requires : goal.put_decimal-requires
put_decimal-requires c = let m = c.magnitude-size in
    omega (arith, decimal_most m.result m.type_inv)

pub returns-then-z-lt0 : goal.returns-then-z-lt0
returns-then-z-lt0 c = let m = c.magnitude-size in
    let e = signed_below c.args.z c.ranges.z c.if-z-lt0.true ∙ ap (λ n. 0x2d ∷ decimal n) (sym m.ensures) in
    rw e (at_most (then c.put.ensures c.put_decimal.ensures) (omega (arith, decimal_most m.result m.type_inv)))
