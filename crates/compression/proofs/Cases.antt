-- The cases of S-6 and S-8, computed by the checker.
-- Assumes nothing.
use mathlib.Core.Path.{◌≡◌, refl}
use mathlib.Core.List.{map}
use Rattle.exact.specs.Quotient.{up_of}
use Rattle.exact.specs.Root.{root_of}
use Rattle.fields.specs.Bolt.{in_chart}
use Rattle.fields.specs.Range.{within, between}
use Rattle.fields.specs.Order.{clear}
use Rattle.stability.specs.Earthquake.{shell_exact, shell_weight, root_yield, root_most, bottom_root, cap_exact, bottom_cap, bottom_weight, resistance_of, uplift_of}
use Rattle.rules.specs.Method.{is_method}
use Rattle.buckling.specs.Stress.{stress_exact, stress_of}
use Rattle.buckling.specs.Coefficient.{argument_exact, argument_of, entry_at, coefficient_of}
use Rattle.buckling.specs.Allowed.{local_buckling, allowed_exact, allowed_of}
use Rattle.flaws.specs.Flaws.{bad_anchors, tank_flaws, site_flaws, anchor_flaws, course_flaws}
use Rattle.parts.specs.Parts.{courses_clear, courses_blank, slots_reachable}
use Rattle.sheet.specs.Steps.{consistent, reachable}
use Rattle.claims.specs.Figures.{resistance_on}
use Rattle.compression.specs.Compression.{coefficient_on, stresses_of, shell_compression}
use Rattle.compression.specs.Cases.{proved_cases, outcome, expected}

pub proved_cases_lem : map outcome proved_cases ≡ map expected proved_cases
unfolding up_of root_of in_chart within between clear shell_exact shell_weight root_yield root_most bottom_root cap_exact bottom_cap bottom_weight resistance_of uplift_of is_method stress_exact stress_of argument_exact argument_of entry_at coefficient_of local_buckling allowed_exact allowed_of bad_anchors tank_flaws site_flaws anchor_flaws course_flaws courses_clear courses_blank slots_reachable consistent reachable resistance_on coefficient_on stresses_of shell_compression
proved_cases_lem = refl
