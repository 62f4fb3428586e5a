-- The cases that document 01 marks ◆ and its case of 37, and those of S-1, S-3, S-5, S-7, S-8 and S-10 of document 02, computed by the checker.
-- Assumes nothing.
use mathlib.Core.Path.{◌≡◌, refl}
use mathlib.Core.List.{[], ◌∷◌, map}
use Rattle.entries.specs.declared.sheet.Sheet.{Sheet}
use Rattle.exact.specs.Quotient.{up_ℤ, up_to}
use Rattle.exact.specs.Root.{root_of}
use Rattle.fields.specs.Bolt.{in_chart, stress_area}
use Rattle.fields.specs.Range.{within, between}
use Rattle.fields.specs.Refusal.{plain}
use Rattle.stability.specs.Anchors.{reduced_weight, pull_exact, pull_of, larger_pull, spacing_verdict, strength_verdict, wind_verdict}
use Rattle.stability.specs.Earthquake.{shell_exact, shell_weight, root_yield, root_most, bottom_root, cap_exact, bottom_cap, bottom_weight, resistance_of, uplift_of, quake_verdict}
use Rattle.rules.specs.Hoop.{head_of, design_head, hoop_exact, hoop_need, plate_floor, required_plate, course_verdict}
use Rattle.rules.specs.Method.{is_method, method_of}
use Rattle.rules.specs.Verdict.{verdict_of}
use Rattle.rules.specs.Wind.{pressure_of, moment_of}
use Rattle.fields.specs.Order.{answer_code, clear}
use Rattle.flaws.specs.Flaws.{bad_anchors, tank_flaws, site_flaws, anchor_flaws, course_flaws}
use Rattle.parts.specs.Parts.{courses_clear, courses_blank, slots_reachable}
use Rattle.sheet.specs.Steps.{consistent, reachable}
use Rattle.claims.specs.Figures.{resistance_on}
use Rattle.claims.specs.Report.{line_of, self_checks, anchor_checks, standing_of, courses_hold, word_of, report_of}
use Rattle.claims.specs.Judging.{judged}
use Rattle.claims.specs.Cases.{on_size_6, without_site, without_course, example_above, example_unstated, proved_cases, outcome, expected}

pub proved_cases_lem : map outcome proved_cases ≡ map expected proved_cases
unfolding up_ℤ up_to root_of in_chart stress_area within between reduced_weight pull_exact pull_of larger_pull spacing_verdict strength_verdict wind_verdict shell_exact shell_weight root_yield root_most bottom_root cap_exact bottom_cap bottom_weight resistance_of uplift_of quake_verdict head_of design_head hoop_exact hoop_need plate_floor required_plate course_verdict is_method method_of verdict_of pressure_of moment_of clear bad_anchors tank_flaws site_flaws anchor_flaws course_flaws courses_clear courses_blank slots_reachable consistent reachable line_of resistance_on self_checks anchor_checks standing_of courses_hold word_of report_of judged
proved_cases_lem = refl

-- anchors left out are asked about
pub unstated_asked : answer_code (judged 1 example_unstated).answer ≡ plain 38
unfolding is_method within between clear tank_flaws site_flaws course_flaws courses_clear courses_blank slots_reachable consistent reachable judged
unstated_asked = refl

-- water a hundredth of an inch above the shell
pub above_refused : answer_code (judged 1 example_above).answer ≡ plain 37
unfolding is_method in_chart within between clear bad_anchors tank_flaws site_flaws anchor_flaws course_flaws courses_clear courses_blank slots_reachable consistent reachable judged
above_refused = refl

-- size 6 is judged beside what version 1 gives, and is 30 beside anything less
pub size_6_judged : map (λ (s : Sheet). answer_code (judged 1 s).answer) (on_size_6 1000 ∷ on_size_6 1001 ∷ without_site ∷ without_course ∷ [])
    ≡ plain 0 ∷ plain 30 ∷ plain 30 ∷ plain 30 ∷ []
unfolding is_method in_chart within between clear bad_anchors tank_flaws site_flaws anchor_flaws course_flaws courses_clear courses_blank slots_reachable consistent reachable judged
size_6_judged = refl
