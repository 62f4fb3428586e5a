-- Figures that the checker computes from the definitions, at numbers that are not round: what a constant that is wrong in definition and code
-- alike would change.
-- Assumes nothing.
use mathlib.Core.Path.{◌≡◌, refl}
use mathlib.Core.List.{[], ◌∷◌}
use Rattle.exact.specs.Quotient.{up_of}
use Rattle.buckling.specs.Stress.{stress_exact, stress_of}
use Rattle.buckling.specs.Coefficient.{argument_exact, argument_of, entry_at, coefficient_of}
use Rattle.buckling.specs.Allowed.{local_buckling, allowed_exact, allowed_of}

stresses_computed : stress_of 9999999 499 999999999 12001 1 ∷ stress_of 9876543 0 987654321 239999 1 ∷ stress_of 1 500 0 239999 1999 ∷ []
    ≡ 1092474270 ∷ 3929286 ∷ 1 ∷ []
unfolding up_of stress_exact stress_of
stresses_computed = refl

-- the last four: just 0.0640, and just below it, by the level and by the gravity
arguments_computed :
    argument_of 76799 1299 239999 1
    ∷ argument_of 1201 1001 12001 1999
    ∷ argument_of 37671 1000 32000 433
    ∷ argument_of 37670 1000 32000 433
    ∷ argument_of 33133 1137 32000 433
    ∷ argument_of 33133 1136 32000 433
    ∷ []
    ≡ 17874431652 ∷ 0 ∷ 640 ∷ 639 ∷ 640 ∷ 639 ∷ []
unfolding argument_exact argument_of
arguments_computed = refl

entries_computed : coefficient_of 0 ∷ coefficient_of 1 ∷ coefficient_of 2 ∷ coefficient_of 320 ∷ coefficient_of 638 ∷ coefficient_of 639 ∷ coefficient_of 640 ∷ coefficient_of 641 ∷ []
    ≡ 0 ∷ 31 ∷ 56 ∷ 3996 ∷ 7134 ∷ 7144 ∷ 7153 ∷ 7153 ∷ []
unfolding entry_at coefficient_of
entries_computed = refl

-- Elastic buckling, with no help and with some, just below and just above whole numbers, and at its limit of 0.0031088;
elastic_computed : allowed_of 0 165264 539 ∷ allowed_of 0 206897 1687 ∷ allowed_of 4671 126698 1945 ∷ allowed_of 105 131231 1933 ∷ allowed_of 1 125000 1943 ∷ []
    ≡ 1553 ∷ 4310 ∷ 13309 ∷ 9914 ∷ 10757 ∷ []
unfolding local_buckling allowed_exact allowed_of
elastic_computed = refl

-- inelastic buckling, from just above that limit to just below 0.0125, on either side of whole numbers;
inelastic_computed : allowed_of 1 124999 1943 ∷ allowed_of 0 24072 605 ∷ allowed_of 0 24902 1021 ∷ allowed_of 0 89891 1859 ∷ allowed_of 5137 65755 1552 ∷ allowed_of 2477 30267 1343 ∷ allowed_of 0 31985 1999 ∷ []
    ≡ 10756 ∷ 12642 ∷ 15765 ∷ 11767 ∷ 17028 ∷ 20677 ∷ 19994 ∷ []
unfolding local_buckling allowed_exact allowed_of
inelastic_computed = refl

-- and plastic buckling from just above it
plastic_computed : allowed_of 0 31997 2000 ∷ allowed_of 0 15224 1579 ∷ allowed_of 6521 20709 1321 ∷ allowed_of 4512 13216 1887 ∷ []
    ≡ 19995 ∷ 19995 ∷ 36074 ∷ 44899 ∷ []
unfolding local_buckling allowed_exact allowed_of
plastic_computed = refl
