-- Files and their tallies, and what may still be read after bytes, computed by the checker.
-- Assumes nothing.
use mathlib.Core.Path.{◌≡◌, refl}
use mathlib.Core.List.{map}
use Rattle.exact.specs.Quotient.{up_of, up_to, up_ℤ}
use Rattle.exact.specs.Greatest.{tried, low_bits, greatest_below}
use Rattle.exact.specs.Root.{root_of}
use Rattle.fields.specs.Bolt.{in_chart, stress_area}
use Rattle.fields.specs.Range.{within, between}
use Rattle.stability.specs.Anchors.{reduced_weight, pull_exact, pull_of, spacing_verdict, strength_verdict, wind_verdict, larger_pull}
use Rattle.stability.specs.Earthquake.{shell_exact, shell_weight, root_yield, root_most, bottom_root, cap_exact, bottom_cap, bottom_weight, resistance_of, uplift_of, quake_verdict}
use Rattle.rules.specs.Hoop.{head_of, design_head, hoop_exact, hoop_need, plate_floor, required_plate, course_verdict}
use Rattle.rules.specs.Method.{is_method, method_of}
use Rattle.rules.specs.Verdict.{verdict_of}
use Rattle.rules.specs.Wind.{pressure_exact, pressure_of, moment_exact, moment_of}
use Rattle.fields.specs.Order.{clear}
use Rattle.layout.specs.Numbers.{four_in}
use Rattle.layout.specs.Layout.{prefix_of, tail_head}
use Rattle.layout.specs.Header.{is_length, version_for}
use Rattle.sheet.specs.Writing.{bytes_of}
use Rattle.sheet.specs.Reading.{steps_in, read_in}
use Rattle.flaws.specs.Flaws.{bad_anchors, tank_flaws, site_flaws, anchor_flaws, course_flaws}
use Rattle.parts.specs.Parts.{courses_clear, courses_blank, slots_reachable}
use Rattle.sheet.specs.Steps.{applied, consistent, reachable}
use Rattle.claims.specs.Figures.{resistance_on}
use Rattle.claims.specs.Report.{line_of, self_checks, anchor_checks, standing_of, courses_hold, word_of, report_of}
use Rattle.claims.specs.Judging.{judged}
use Rattle.marking.specs.Marking.{marked}
use Rattle.tally.specs.Tally.{judgements, tally_of, tallied}
use Rattle.tally.specs.Parts.{counted, after_part}
use Rattle.tally.specs.Stream.{after_bytes}
use Rattle.tally.specs.Cases.{FileCase, file_cases, RoomCase, room_cases}

pub file_cases_lem : map (λ (c : FileCase). tallied c.bytes) file_cases ≡ map (λ (c : FileCase). c.tally) file_cases
unfolding up_of up_to up_ℤ tried low_bits greatest_below root_of in_chart stress_area within between reduced_weight pull_exact pull_of larger_pull spacing_verdict strength_verdict wind_verdict shell_exact shell_weight root_yield root_most bottom_root cap_exact bottom_cap bottom_weight resistance_of uplift_of quake_verdict head_of design_head hoop_exact hoop_need is_method method_of plate_floor required_plate course_verdict verdict_of pressure_exact pressure_of moment_exact moment_of clear four_in prefix_of tail_head bytes_of steps_in is_length version_for read_in bad_anchors tank_flaws site_flaws anchor_flaws course_flaws applied courses_clear courses_blank slots_reachable consistent reachable resistance_on line_of self_checks anchor_checks standing_of courses_hold word_of report_of judged marked judgements tally_of tallied
file_cases_lem = refl

pub room_cases_lem : map (λ (c : RoomCase). (after_bytes c.bytes).progress.room) room_cases ≡ map (λ (c : RoomCase). c.room) room_cases
unfolding up_of up_to up_ℤ tried low_bits greatest_below root_of in_chart stress_area within between reduced_weight pull_exact pull_of larger_pull spacing_verdict strength_verdict wind_verdict shell_exact shell_weight root_yield root_most bottom_root cap_exact bottom_cap bottom_weight resistance_of uplift_of quake_verdict head_of design_head hoop_exact hoop_need is_method method_of plate_floor required_plate course_verdict verdict_of pressure_exact pressure_of moment_exact moment_of clear four_in prefix_of tail_head bytes_of steps_in is_length version_for read_in bad_anchors tank_flaws site_flaws anchor_flaws course_flaws applied courses_clear courses_blank slots_reachable consistent reachable resistance_on line_of self_checks anchor_checks standing_of courses_hold word_of report_of judged marked counted after_part
room_cases_lem = refl
