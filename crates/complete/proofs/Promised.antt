-- What the round trips' clauses of reading and writing come to by themselves, at the example's bytes: a clause that was left out, or that said
-- nothing of these, would prove none of this.
-- Assumes nothing.
use Rattle.std.specs.Prelude.{Ok, Err}
use mathlib.Core.Path.{◌≡◌, refl}
use mathlib.Core.List.{List, [], ◌∷◌, ◌++◌}
use Prim.Native.Nat.{ℕ}
use native.Mathlib.Omega.{arith}
use lib.ListN.{replicate}
use Rattle.fields.specs.Range.{within, between}
use Rattle.fields.specs.Refusal.{plain}
use Rattle.fields.specs.Bolt.{in_chart}
use Rattle.fields.specs.declared.refusal.Refusal.TheVariants.{SizeDiscontinued}
use Rattle.fields.specs.Order.{answer_code}
use Rattle.flaws.specs.Flaws.{bad_anchors, tank_flaws, site_flaws, anchor_flaws, course_flaws}
use Rattle.entries.specs.declared.sheet.Sheet.{Sheet}
use Rattle.layout.specs.Numbers.{four_in}
use Rattle.layout.specs.Header.{is_length, version_for}
use Rattle.layout.specs.Cases.{old_bytes, old_with, example_bytes}
use Rattle.sheet.specs.Steps.{applied, accepted}
use Rattle.sheet.specs.Writing.{written}
use Rattle.sheet.specs.Reading.{steps_in, read_in, bolt_size, WritesBack, ReadsBack}

-- the bytes are read, with bolts of size 8 or 6
read_again : (answer_code (read_in example_bytes).answer ≡ plain 0)
    × (answer_code (read_in old_bytes).answer ≡ plain 0)
    × (bolt_size (read_in old_bytes).sheet ≡ 8)
    × (answer_code (read_in (old_with 6)).answer ≡ plain 0)
    × (bolt_size (read_in (old_with 6)).sheet ≡ 6)
unfolding within between in_chart bad_anchors tank_flaws site_flaws anchor_flaws course_flaws four_in is_length version_for applied steps_in read_in
read_again = (refl, refl, refl, refl, refl)

abbrev sevens : ℕ → List ℕ
sevens n = replicate n 7

-- version 2: the same bytes, and those behind them stay
pub same_promised : WritesBack example_bytes (read_in example_bytes)
    → written (read_in example_bytes).sheet (sevens 125) ≡ record { answer = Ok 124; buffer = example_bytes ++ 7 ∷ [] }
same_promised w = w.same read_again.0 refl (sevens 125) (omega arith)

-- version 1 on bolts of size 8: version 2's bytes, and the same meaning
pub renewed_promised : WritesBack old_bytes (read_in old_bytes)
    → (written (read_in old_bytes).sheet (sevens 124) ≡ record { answer = Ok 124; buffer = example_bytes }) × (read_in example_bytes ≡ read_in old_bytes)
renewed_promised w =
    let no : bolt_size (read_in old_bytes).sheet ≡ 6 → ⊥ = λ z. omega (arith, z, read_again.2) in
    (w.renews read_again.1 refl no (sevens 124) (omega arith), w.meaning read_again.1 refl no)

-- and on bolts of size 6: 39, and the buffer stays
pub not_written_promised : WritesBack (old_with 6) (read_in (old_with 6))
    → written (read_in (old_with 6)).sheet (sevens 124) ≡ record { answer = Err SizeDiscontinued; buffer = sevens 124 }
not_written_promised w = w.not_written read_again.3 read_again.4 (sevens 124)

-- what is written is read
pub read_promised : (s : Sheet) → ReadsBack s (Ok 124) (example_bytes ++ 7 ∷ []) → read_in example_bytes ≡ accepted s
read_promised s r = r.same refl
