-- `flaws::bad_anchors` meets its contract: each return has the tests that led there. Assumes nothing.
use mathlib.Core.Path.{◌≡◌, refl}
use mathlib.Core.Bool.{Bool, true, false, not}
use Prim.Native.Nat.{ℕ}
use lib.Dec.{T}
use borrow.Author.Tests.{eq-eqb, ne_eqb, lt-ltb, le-ltb}
use Rattle.std.specs.Prelude.{Option, Some, None, SomeIff, is_some}
use Rattle.flaws.specs.Flaws.{bad_anchors}
use Rattle.flaws.proofs.bad_anchors.Goals as goal

-- what is none exactly where a test fails
none_where_not : (o : Option ℕ) (c none : Bool) (v : ℕ) → SomeIff o (T c) v → is_some o ≡ not none → none ≡ not c
none_where_not (Some x) true true v p e = e
none_where_not (Some x) true false v p e = refl
none_where_not (Some x) false none v p e = absurd p.0
none_where_not None true none v p e = absurd (p tt)
none_where_not None false true v p e = refl
none_where_not None false false v p e = e

pub returns-then-a-ne0 : goal.returns-then-a-ne0
unfolding bad_anchors
returns-then-a-ne0 c = simp (eq-eqb _ _ c.if-a-eq0.true, ne_eqb _ _ c.if-a-ne0.true)

pub returns-else-a-ne0 : goal.returns-else-a-ne0
unfolding bad_anchors
returns-else-a-ne0 c = simp (eq-eqb _ _ c.if-a-eq0.true, eq-eqb _ _ c.if-a-ne0.false)

pub returns-then-a-diameter : goal.returns-then-a-diameter
unfolding bad_anchors
returns-then-a-diameter c = simp (ne_eqb _ _ c.if-a-eq0.false, lt-ltb _ _ c.if-a-diameter.true)

pub returns-else-a-diameter : goal.returns-else-a-diameter
unfolding bad_anchors
returns-else-a-diameter c =
    simp (ne_eqb _ _ c.if-a-eq0.false, le-ltb _ _ c.if-a-diameter.false)
    (none_where_not _ _ _ _ c.stress_area.ensures c.is_none.ensures)
