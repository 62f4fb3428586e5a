-- `layout::reading::version_in` meets its contract: what `search` leaves, since the last test is of a place in the tail.
-- Assumes nothing.
use mathlib.Core.Path.{◌≡◌, ◌∙◌, ap, sym}
use mathlib.Core.Bool.{Bool}
use mathlib.Core.List.{List}
use Prim.Native.Nat.{ℕ}
use native.Mathlib.Omega.{arith}
use Rattle.fields.specs.Order.{Answer, reply_unless}
use Rattle.fields.proofs.OrderLaws.{reply_coded}
use Rattle.layout.specs.Numbers.{two_in}
use Rattle.layout.specs.declared.version.Version.{Version}
use Rattle.layout.specs.Layout.{prefix_length}
use Rattle.layout.specs.Header.{is_length, version_for, version_in, read_order}
use Rattle.layout.proofs.HeaderLaws.{no_length, tail_inside}
use Rattle.layout.proofs.reading.version_in.Goals as goal

-- what the code works out, by the length and the version that the bytes have
module _ (b : List ℕ) {L : ℕ} {v : Version} (e : L ≡ two_in b) (f : v ≡ version_for L) where
  version_is : v ≡ version_in b
  version_is = f ∙ ap version_for e

  tested : {r k : Bool} → r ≡ is_length v L → r ≡ k → is_length (version_in b) (two_in b) ≡ k
  tested g h = ap (λ (w : Version). is_length w (two_in b)) (sym version_is) ∙ ap (is_length v) (sym e) ∙ sym g ∙ h

pub returns-then-not-is_length : goal.returns-then-not-is_length
returns-then-not-is_length c =
    let b = c.args.bytes.now in
    let r = reply_coded (version_in b) (read_order b)
    (ap (λ (a : Answer). reply_unless a (version_in b)) (no_length b c.if-bytes-lt2.false
    (tested b c.length_in-length.ensures.0 c.for_length-version.ensures c.is_length.ensures c.if-not-is_length.true))) in
    record { value = r.0; code = r.1 }

pub bounds-bytes-2 : goal.bounds-bytes-2
bounds-bytes-2 c =
    let b = c.args.bytes.now in
    omega (
      arith,
      c.length_in-length.ensures.0,
      tail_inside (version_in b) (two_in b)
          (tested b c.length_in-length.ensures.0 c.for_length-version.ensures c.is_length.ensures c.if-not-is_length.false),
    )

pub bounds-bytes-prefix : goal.bounds-bytes-prefix
bounds-bytes-prefix c =
    let b = c.args.bytes.now in
    let v = version_is b c.length_in-length.ensures.0 c.for_length-version.ensures in
    omega (
      arith,
      c.length_in-length.ensures.0,
      c.prefix.ensures ∙ ap prefix_length v,
      tail_inside (version_in b) (two_in b)
          (tested b c.length_in-length.ensures.0 c.for_length-version.ensures c.is_length.ensures c.if-not-is_length.false),
    )
