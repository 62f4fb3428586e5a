-- The line of a refusal is what the library prints of it (`{}`), and a line end.
-- Assumes nothing.
use mathlib.Core.Path.{◌≡◌, sym, ap}
use mathlib.Core.Bool.{Bool, true, false, cond}
use mathlib.Core.List.{List, [], ◌∷◌, ◌++◌, append_assoc, map}
use Prim.Native.Nat.{ℕ, ◌^◌, ◌<◌}
use lib.Dec.{eqb}
use Rattle.std.specs.Fmt.{decimal as written}
use Rattle.fields.specs.Refusal.{printed_code}
use Rattle.fields.specs.declared.refusal.Code.{Code}
use Rattle.lists.specs.Ascii.{ascii}
use Rattle.words.specs.Decimal.{decimal}
use Rattle.words.proofs.PrintedLaws.{decimal_printed}
use Rattle.lines.specs.Text.{line, more, refusal_line}

pub refusal_printed : (p : Code) → p.number < 2 ^ 64 → p.field < 2 ^ 64 → line (refusal_line p) ≡ printed_code p ++ ascii "\n"
refusal_printed p h k = ap (λ (l : List ℕ). ascii "refused" ++ l) (go (eqb p.number 16))
  where
    go : (b : Bool) → more (map decimal (cond b (p.number ∷ p.field ∷ []) (p.number ∷ [])))
        ≡ ascii " " ++ (written p.number ++ cond b (ascii " " ++ written p.field) []) ++ ascii "\n"
    go true = rw (decimal_printed p.number h, decimal_printed p.field k)
        (ap (λ (l : List ℕ). ascii " " ++ l) (sym (append_assoc (written p.number) (ascii " " ++ written p.field) (ascii "\n"))))
    go false = rw (decimal_printed p.number h)
        (ap (λ (l : List ℕ). ascii " " ++ l) (sym (append_assoc (written p.number) [] (ascii "\n"))))
