-- `rules::wind::standard_site` meets its contract: a speed in the range of field 7 goes to the rule, any other is refused. Assumes nothing.
use mathlib.Core.Path.{◌≡◌, refl, sym, ap, ◌∙◌}
use mathlib.Core.Bool.{true, false}
use Prim.Native.Nat.{ℕ}
use native.Mathlib.Omega.{arith}
use borrow.Author.Tests.{eqb-false}
use Rattle.fields.specs.Range.{range, within}
use Rattle.fields.proofs.RangeLaws.{in_of_within}
use Rattle.rules.specs.Wind.{standard_site, standard_code, site_code_of}
use Rattle.std.specs.Prelude.{Result, Ok}
use Rattle.fields.specs.declared.refusal.Refusal.{Refusal}
use Rattle.rules.proofs.WindLaws.{standard_code_lem}
use Rattle.rules.proofs.wind.standard_site.Goals as goal

-- what is the answer says what the answer says
clauses : (v : ℕ) {a : Result ℕ Refusal} → a ≡ standard_site v → record { value : a ≡ standard_site v; code : site_code_of a ≡ standard_code v }
clauses v e = record { value = e; code = ap site_code_of e ∙ standard_code_lem v }

pub returns-then-not-in_range : goal.returns-then-not-in_range
unfolding standard_site
returns-then-not-in_range c =
    let v = c.args.speed in
    let outside : within (range 7) v ≡ false = sym c.in_range.ensures ∙ c.if-not-in_range.true in
    clauses v (rw outside)

pub pressure-requires : goal.pressure-requires
pressure-requires c =
    let v = c.args.speed in
    let inside : within (range 7) v ≡ true = sym c.in_range.ensures ∙ c.if-not-in_range.false in
    omega (arith, in_of_within 7 v (eqb-false 7 12 refl) inside)

pub returns : goal.returns
unfolding standard_site
returns c =
    let v = c.args.speed in
    let inside : within (range 7) v ≡ true = sym c.in_range.ensures ∙ c.if-not-in_range.false in
    clauses v (rw inside (ap Ok c.pressure.ensures))
