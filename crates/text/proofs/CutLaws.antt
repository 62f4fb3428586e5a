-- Bytes past the first `most_bytes` make no difference, being too many for any sheet: a program need read no more.
-- Assumes nothing.
use Rattle.std.specs.Prelude.{Err}
use mathlib.Core.Path.{◌≡◌, refl, sym, ap, ◌∙◌}
use mathlib.Core.Bool.{Bool, true, false, cond}
use mathlib.Core.List.{List}
use Prim.Native.Nat.{ℕ, ◌+◌, ◌≤◌, ◌<◌}
use native.Mathlib.Omega.{arith}
use lib.ListN.{length, take}
use lib.Seq.{get_or-take, length-take-le}
use Rattle.fields.specs.declared.refusal.Refusal.{Refusal}
use Rattle.fields.specs.declared.refusal.Refusal.TheVariants.{TooManyBytes, BadLength}
use Rattle.fields.specs.Order.{Answer, first_of}
use Rattle.rules.specs.Method.{method_number}
use Rattle.rules.specs.declared.method.Method.TheVariants.{D100}
use Rattle.layout.specs.Numbers.{two_in}
use Rattle.layout.specs.declared.version.Version.{Version}
use Rattle.layout.specs.declared.version.Version.TheVariants.{One, Two}
use Rattle.layout.specs.Header.{is_length, version_for, version_in, read_order}
use Rattle.layout.proofs.HeaderLaws.{length_of, no_length, too_many}
use Rattle.sheet.specs.Steps.{unless}
use Rattle.sheet.specs.Reading.{read_in}
use Rattle.sheet.proofs.AnswerLaws.{turned}
use Rattle.claims.specs.Judging.{unless_refused, refused_for, judged}
use Rattle.lines.specs.Text.{text_of}
use Rattle.marking.specs.Marking.{marked}
use Rattle.text.specs.declared.marker.TheConstants.{MOST_BYTES}
use Rattle.text.specs.Marking.{marked_text, most_bytes}

-- 13, or else 12
abbrev too_long : ℕ → Refusal
too_long L = cond (is_length (version_for L) L) TooManyBytes BadLength

-- every length of a version is below that
length_most : (v : Version) (L : ℕ) → is_length v L ≡ true → 2 + L < most_bytes
length_most One L e = let l = length_of One L e in omega (arith, l.few, l.is)
length_most Two L e = let l = length_of Two L e in omega (arith, l.few, l.is)

answered : (b : List ℕ) → most_bytes ≤ length b → first_of (read_order b) ≡ Err (too_long (two_in b))
answered b h = go (is_length (version_in b) (two_in b)) refl
  where
    go : (x : Bool) → is_length (version_in b) (two_in b) ≡ x → first_of (read_order b) ≡ Err (cond (is_length (version_in b) (two_in b)) TooManyBytes BadLength)
    go true e = sym (too_many b (omega arith) e (omega (arith, length_most (version_in b) (two_in b) e))) ∙ rw e
    go false e = sym (no_length b (omega arith) e) ∙ rw e

too_long_lem : (b : List ℕ) → most_bytes ≤ length b → marked b ≡ refused_for (too_long (two_in b))
unfolding read_in marked
too_long_lem b h =
    ap (λ (a : Answer). unless_refused (unless a (turned b)).answer (judged (method_number D100) (read_in b).sheet)) (answered b h)

pub most_bytes_lem : MOST_BYTES ≡ most_bytes
most_bytes_lem = refl

pub cut_same : (b : List ℕ) → most_bytes ≤ length b → marked_text (take most_bytes b) ≡ marked_text b
unfolding marked_text
cut_same b h =
    let n = length-take-le most_bytes b h in
    let e : two_in (take most_bytes b) ≡ two_in b = omega (arith, get_or-take most_bytes b 0 0 (omega arith), get_or-take most_bytes b 1 0 (omega arith)) in
    ap text_of (too_long_lem (take most_bytes b) (omega (arith, n)) ∙ ap (λ (L : ℕ). refused_for (too_long L)) e ∙ sym (too_long_lem b h))
