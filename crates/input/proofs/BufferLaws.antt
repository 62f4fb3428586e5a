-- What stands in a buffer after a read into its rest.
-- Assumes nothing.
use Rattle.std.proofs.Common.{◌≡◌, ℕ, ◌+◌, ◌≤◌, List, ◌++◌, length, take, sym, ap, ◌∙◌, length-take-le}
use Rattle.std.proofs.Math.Seq.{take-append-add}
use Rattle.std.proofs.lemmas.List.{take-append-le}

pub behind : (k n : ℕ) (old part rest : List ℕ) → k ≤ length old → n ≤ length part → take (k + n) (take k old ++ (part ++ rest)) ≡ take k old ++ take n part
behind k n old part rest p q =
    ap (λ (m : ℕ). take (m + n) (take k old ++ (part ++ rest))) (sym (length-take-le k old p))
    ∙ take-append-add (take k old) (part ++ rest) n
    ∙ ap (λ (ys : List ℕ). take k old ++ ys) (take-append-le n part rest q)
