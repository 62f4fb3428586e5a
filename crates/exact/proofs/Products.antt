-- A product of numbers with known bounds fits 64 bits, unsigned or signed, if the product of the bounds does.
-- Assumes nothing.
use Prim.Native.Nat.{ℕ, ◌*◌, ◌^◌, ◌≤◌}
use native.Mathlib.Nat.{lt_of_le_of_lt, mul-le-mul}
use lib.Dec.{T, ltb, ltb→lt}
use lib.IntN.{pos}
use mir.Syntax.{w64}
use mir.Val.{Fits, SFits}

pub mul_fits : {a A b B : ℕ} → a ≤ A → b ≤ B → T (ltb (A * B) (2 ^ 64)) → Fits w64 (a * b)
mul_fits {A} {B} h k t = record { fits = lt_of_le_of_lt (mul-le-mul h k) (ltb→lt (A * B) (2 ^ 64) t) }

pub mul_sfits : {a A b B : ℕ} → a ≤ A → b ≤ B → T (ltb (A * B) (2 ^ 63)) → SFits w64 (pos (a * b))
mul_sfits {A} {B} h k t = record { sfits = lt_of_le_of_lt (mul-le-mul h k) (ltb→lt (A * B) (2 ^ 63) t) }
