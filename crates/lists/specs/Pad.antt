-- Elements in an array of twelve: behind them one value stands in the slots that are left.
use Rattle.std.specs.Prelude.{List, ◌++◌, ◌-◌, length, replicate}

abbrev pub padded : {A : Type 0} → A → List A → List A
padded blank xs = xs ++ replicate (12 - length xs) blank
