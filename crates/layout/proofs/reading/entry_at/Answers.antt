-- `layout::reading::entry_at` meets its contract. Assumes nothing.
use mathlib.Core.List.{List, [], ◌∷◌, ◌++◌}
use mathlib.Core.Path.{◌≡◌, ap, sym, ◌∙◌}
use Prim.Native.Nat.{ℕ, ◌+◌, ◌*◌}
use native.Mathlib.Nat.{zero-add}
use native.Mathlib.Numerals.{add-one}
use native.Mathlib.Omega.{arith}
use lib.ListN.{length-set, take, set, drop}
use lib.Seq.{take-suc-set}
use Rattle.layout.specs.Numbers.{four_in, figures_in}
use Rattle.layout.proofs.NumberLaws.{figures_next, four_on}
use Rattle.layout.proofs.reading.entry_at.Goals as goal

pub loop-k-preserved : goal.loop-k-preserved
loop-k-preserved g c =
    let l = c.loop-k in
    let b = c.args.bytes.now in
    let at = c.args.at in
    let k = l.k in
    let x = c.four_at.result in
    let figure : x ≡ four_in (drop (0 + 4 * k) (drop at b)) =
    c.four_at.ensures ∙ sym (four_on b at (4 * k)) ∙ ap (λ (n : ℕ). four_in (drop n (drop at b))) (sym (zero-add (4 * k))) in
    record {
      size = length-set l.figures k x ∙ l.invariant.size;
      read = ap (λ (n : ℕ). take n (set l.figures k x)) (add-one k)
          ∙ take-suc-set l.figures k x (omega (arith, l.invariant.size))
          ∙ ap (λ (xs : List ℕ). xs ++ (x ∷ [])) l.invariant.read
          ∙ ap (λ (y : ℕ). figures_in k (drop at b) ++ (y ∷ [])) figure
          ∙ sym (figures_next k 0 (drop at b));
    }
