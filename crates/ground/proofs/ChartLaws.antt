-- The law of interpolation, stated once over the columns' figures and their step.
-- Assumes nothing.
use mathlib.Core.Path.{◌≡◌, ◌∙◌, ap, sym}
use mathlib.Core.List.{List}
use mathlib.Core.Logic.{◌⊎◌, inl, inr}
use Prim.Native.Nat.{ℕ, suc, ◌+◌, ◌*◌, ◌/◌, ◌%◌, ◌≤◌, ◌<◌}
use native.Mathlib.Nat.{add-zero, div-add-mod', div-eq_of_lt, div-lt_iff_lt-mul, eq_of_mul-eq-mul_right, eq-or-lt_of_le, le_antisymm, le-div_iff_mul-le, le_of_mul-le-mul_right, lt_of_not-le, mod-eq_of_lt, mod-lt, mul-add-div_right, mul-add-mod_self_right, mul-le-mul_right, sub_self, sub-zero}
use native.Mathlib.Decide.{dec_le}
use native.Mathlib.Omega.{arith}
use borrow.Author.Tests.{le-leb, lt-leb}
use Rattle.ground.specs.Chart.{column, on_line, interpolated, Interpolates}

-- strictly between the end columns: the column at or before x, and how far x is past it
pub inside : (step x : ℕ) → step < x → x < 5 * step → (0 < step) × (1 ≤ x / step) × (x / step < 5) × (x % step < step)
inside step x h l =
    let p : 0 < step = omega arith in
    (p, (le-div_iff_mul-le p).1 (omega arith), (div-lt_iff_lt-mul p).1 l, mod-lt x p)

module _ (step : ℕ) (figures : List ℕ) where
  pub at_first : (x : ℕ) → x ≤ step → interpolated step figures x ≡ column figures 1 * step
  unfolding interpolated
  at_first x h = rw (le-leb x step h)

  pub at_last : (x : ℕ) → step < x → 5 * step ≤ x → interpolated step figures x ≡ column figures 5 * step
  unfolding interpolated
  at_last x h l = rw (lt-leb x step h, le-leb (5 * step) x l)

  -- on the line from the column at or before x
  abbrev line_at : ℕ → ℕ
  line_at x = on_line step figures (x / step) (x % step)

  pub at_line : (x : ℕ) → step < x → x < 5 * step → interpolated step figures x ≡ line_at x
  unfolding interpolated
  at_line x h l = rw (lt-leb x step h, lt-leb (5 * step) x l)

  -- the line has the columns' own figures at its ends
  line_start : (k : ℕ) → on_line step figures k 0 ≡ column figures k * step
  line_start k = rw sub-zero (omega arith)

  line_end : (k : ℕ) → on_line step figures k step ≡ column figures (suc k) * step
  line_end k = rw sub_self (omega arith)

  module _ (p : 0 < step) where
    -- short of the next column, and at it
    short_of : (k past : ℕ) → past < step → line_at (k * step + past) ≡ on_line step figures k past
    short_of k past l =
        rw (mul-add-div_right p k past, mul-add-mod_self_right k step past, div-eq_of_lt l, mod-eq_of_lt l, add-zero k)

    up_to : (k past : ℕ) → past ≤ step → line_at (k * step + past) ≡ on_line step figures k past
    up_to k past h = go (eq-or-lt_of_le h)
      where
        go : (past ≡ step) ⊎ (past < step) → line_at (k * step + past) ≡ on_line step figures k past
        go (inr l) = short_of k past l
        go (inl e) =
            let x : k * step + past ≡ suc k * step + 0 = omega arith in
            rw x (short_of (suc k) 0 p ∙ line_start (suc k) ∙ rw e (sym (line_end k)))

    -- from column k to the next
    on_line_lem : (k past : ℕ) → 1 ≤ k → k < 5 → past ≤ step → interpolated step figures (k * step + past) ≡ on_line step figures k past
    on_line_lem k past a b h = go (dec_le (k * step + past) step) (dec_le (5 * step) (k * step + past))
      where
        go : Dec (k * step + past ≤ step) → Dec (5 * step ≤ k * step + past)
            → interpolated step figures (k * step + past) ≡ on_line step figures k past
        go (yes u) v =
            let one : k ≡ 1 = le_antisymm (le_of_mul-le-mul_right {n = 1} (omega arith) p) a in
            let none : past ≡ 0 = omega (arith, mul-le-mul_right step a) in
            at_first _ u ∙ rw (one, none) (sym (line_start 1))
        go (no u) (yes v) =
            let four : k ≡ 4 = le_antisymm (omega arith) (le_of_mul-le-mul_right (omega arith) p) in
            let all : past ≡ step = omega (arith, mul-le-mul_right {m = k} {n = 4} step (omega arith)) in
            at_last _ (lt_of_not-le u) v ∙ rw (four, all) (sym (line_end 4))
        go (no u) (no v) = at_line _ (lt_of_not-le u) (lt_of_not-le v) ∙ up_to k past h

    on_column : (k : ℕ) → 1 ≤ k → k ≤ 5 → interpolated step figures (k * step) ≡ column figures k * step
    on_column k a b = go (eq-or-lt_of_le b)
      where
        go : (k ≡ 5) ⊎ (k < 5) → interpolated step figures (k * step) ≡ column figures k * step
        go (inl e) = rw e (at_last (5 * step) (omega arith) (omega arith))
        go (inr l) = ap (interpolated step figures) (sym (add-zero (k * step))) ∙ on_line_lem k 0 a l (omega arith) ∙ line_start k

    pub interpolates : Interpolates step figures (interpolated step figures)
    interpolates =
        record {
          before_first = at_first;
          on_column = on_column;
          between = λ k past a b h. rw (on_line_lem k past a (omega arith) h, on_column k a (omega arith), on_column (suc k) (omega arith) (omega arith)) (omega arith);
          past_last = λ x l. at_last x (omega arith) l;
        }

    -- and no other function is so
    pub interpolation_unique : (f : ℕ → ℕ) → Interpolates step figures f → (x : ℕ) → f x ≡ interpolated step figures x
    interpolation_unique f i x = go (dec_le x step) (dec_le (5 * step) x)
      where
        go : Dec (x ≤ step) → Dec (5 * step ≤ x) → f x ≡ interpolated step figures x
        go (yes u) v = i.before_first x u ∙ sym (at_first x u)
        go (no u) (yes v) = i.past_last x v ∙ sym (at_last x (lt_of_not-le u) v)
        go (no u) (no v) =
            let h = inside step x (lt_of_not-le u) (lt_of_not-le v) in
            let k = x / step in
            let past = x % step in
            let line : f (k * step + past) * step ≡ on_line step figures k past * step =
            i.between k past h.1 h.2 (omega (arith, h.3))
            ∙ rw (i.on_column k h.1 (omega (arith, h.2)), i.on_column (suc k) (omega arith) h.2) (omega arith) in
            ap f (sym (div-add-mod' x step)) ∙ eq_of_mul-eq-mul_right step p _ _ line ∙ sym (at_line x (lt_of_not-le u) (lt_of_not-le v))
