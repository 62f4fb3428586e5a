-- `fields::range::in_span` meets its contract: the table holds the ends of the ranges, by one test over all places.
-- Assumes nothing.
use mathlib.Core.Path.{◌≡◌, refl, sym, subst}
use mathlib.Core.Bool.{Bool, ◌&&◌}
use Prim.Native.Nat.{ℕ, ◌<◌}
use lib.Dec.{T, eqb, eqb→eq, ltb→lt}
use mir.Facts.{and_yes}
use borrow.Author.Tests.{le-leb, lt-leb}
use Rattle.std.specs.Prelude.{slice_index_or}
use Rattle.exact.proofs.Table.{at_each}
use Rattle.fields.specs.Range.{range, between}
use Rattle.fields.specs.declared.range.TheConstants.{RANGES}
use Rattle.fields.proofs.RangeLaws.{nowhere}
use Rattle.fields.proofs.range.in_span.Goals as goal

-- The ends that the table has at a field's number, whatever stands past it, are those of the field's range.
module _ (past : ℕ × ℕ) where
  abbrev ends : ℕ → ℕ × ℕ
  ends k = slice_index_or RANGES k past

  abbrev is_range : ℕ → Bool
  is_range k = eqb (ends k).0 (range k).least && eqb (ends k).1 (range k).greatest

  range_at : (k : ℕ) → k < 21 → ((range k).least ≡ (ends k).0) × ((range k).greatest ≡ (ends k).1)
  range_at k h =
      let both = and_yes (eqb (ends k).0 (range k).least) (eqb (ends k).1 (range k).greatest) (at_each is_range 21 tt k h) in
      (sym (eqb→eq _ _ both.0), sym (eqb→eq _ _ both.1))

pub returns-in_default : goal.returns-in_default
returns-in_default c = nowhere c.args.field c.args.figure c.in_default.ensures.lookup.3

pub returns-then-least-figure : goal.returns-then-least-figure
unfolding between
returns-then-least-figure c =
    let look = c.in-Some.ensures.lookup in
    let e = range_at c.in-Some.field-0.now c.args.field (ltb→lt c.args.field 21 (subst T look.0 tt)) in
    rw (e.0, e.1, ← look.1, le-leb _ _ c.if-least-figure.true) refl

pub returns-else-least-figure : goal.returns-else-least-figure
unfolding between
returns-else-least-figure c =
    let look = c.in-Some.ensures.lookup in
    let e = range_at c.in-Some.field-0.now c.args.field (ltb→lt c.args.field 21 (subst T look.0 tt)) in
    rw (e.0, e.1, ← look.1, lt-leb _ _ c.if-least-figure.false) refl
