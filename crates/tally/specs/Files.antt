-- Every file, by its bytes: whole sheets end to end, and then nothing, or bytes where no sheet can be found.
use Rattle.std.specs.Prelude.{◌≡◌, ◌⊎◌, ◌<◌, true, false, List, [], ◌∷◌, ℕ, length}
use Rattle.layout.specs.Numbers.{two_in}
use Rattle.tally.specs.Tally.{own_length}
use Rattle.tally.specs.Parts.{is_usable}

pub record WholeSheet (b : List ℕ) : Type 0 where
  pub usable : is_usable (two_in b) ≡ true
  pub whole : length b ≡ own_length b

abbrev pub EachWhole : List (List ℕ) → Type 0
EachWhole [] = Unit {0}
EachWhole (b ∷ bs) = WholeSheet b × EachWhole bs

-- a length that no sheet has, or fewer bytes than it asks for
abbrev pub NoSheet : List ℕ → Type 0
NoSheet b = (is_usable (two_in b) ≡ false) ⊎ (length b < own_length b)
