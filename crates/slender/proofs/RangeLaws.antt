-- What has passed the tests of ranges and slenderness.
-- Assumes nothing.
use mathlib.Core.Path.{◌≡◌, sym, subst}
use mathlib.Core.Bool.{true}
use Prim.Native.Nat.{ℕ}
use native.Mathlib.Omega.{arith}
use lib.Dec.{T}
use mir.Facts.{and_yes}
use Rattle.lists.proofs.BoolLaws.{T_true, three_yes}
use Rattle.fields.specs.Range.{range, within, In}
use Rattle.fields.proofs.RangeLaws.{in_of_within, most_of_within}
use Rattle.slender.specs.declared.tank.Contents.{Contents}
use Rattle.slender.specs.declared.tank.Load.{Load}
use Rattle.slender.specs.declared.tank.Accelerations.{Accelerations}
use Rattle.slender.specs.Weights.{is_slender}
use Rattle.slender.specs.Question.{heights, thousandths_of_g, contents_in, load_in, accelerations_in}
use Rattle.slender.specs.Bounds.{Slender, LoadIn, AccelerationsIn}

in_field : (k x : ℕ) → (k ≡ 12 → ⊥) → T (within (range k) x) → In k x
in_field k x h t = in_of_within k x h (T_true (within (range k) x) t)

pub load_is : (load : Load) → T (load_in load) → LoadIn load
load_is load t =
    let h = and_yes (within (range 3) load.weight) (within heights load.height) t in
    record {
      weight = in_field 3 load.weight (λ k. omega (arith, k)) h.0;
      height = most_of_within heights.greatest load.height (T_true (within heights load.height) h.1);
    }

pub accelerations_are : (g : Accelerations) → T (accelerations_in g) → AccelerationsIn g
accelerations_are g t =
    let h = and_yes (within thousandths_of_g g.impulsive) (within thousandths_of_g g.convective) t in
    record {
      impulsive = most_of_within thousandths_of_g.greatest g.impulsive (T_true (within thousandths_of_g g.impulsive) h.0);
      convective = most_of_within thousandths_of_g.greatest g.convective (T_true (within thousandths_of_g g.convective) h.1);
    }

pub slender_is : (c : Contents) → T (contents_in c) → is_slender c ≡ true → Slender c
slender_is c t slender =
    let h = three_yes (within (range 1) c.diameter) (within (range 2) c.level) (within (range 20) c.gravity) t in
    record {
      diameter = in_field 1 c.diameter (λ k. omega (arith, k)) h.0;
      level = in_field 2 c.level (λ k. omega (arith, k)) h.1;
      gravity = in_field 20 c.gravity (λ k. omega (arith, k)) h.2;
      slender = subst T (sym slender) tt;
    }
