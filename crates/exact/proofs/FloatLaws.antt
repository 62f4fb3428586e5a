-- The bits of a NaN by the kit's definition.
-- Assumes nothing.
use mathlib.Core.Path.{◌≡◌}
use mathlib.Core.Bool.{true}
use lib.Ieee.{Float, binary64, is_nan, to_bits}
use Rattle.std.proofs.Common.{rules}

pub nan_bits : (x : Float) → is_nan x ≡ true → 9221120237041090560 ≡ to_bits binary64 x
unfolding is_nan to_bits
nan_bits x e = search rules
