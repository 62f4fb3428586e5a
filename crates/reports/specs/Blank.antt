-- What is held where there is nothing to say: a line past the courses, and the report beside a refusal. It says short of everything, so
-- that it cannot pass for a sound one.
use Rattle.std.specs.Prelude.{List, Float, replicate}
use Rattle.std.specs.Float.{binary64}
use Rattle.std.specs.Float.Ieee.{of_bits}
use Rattle.rules.specs.declared.verdict.Verdict as Verdict
use Rattle.stability.specs.declared.earthquake.Uplift.TheVariants.{Over}
use Rattle.reports.specs.declared.report.CourseLine.{CourseLine}
use Rattle.reports.specs.declared.report.Standing.TheVariants.{SelfAnchored}
use Rattle.reports.specs.declared.report.Word.TheVariants.{Short}
use Rattle.reports.specs.declared.report.Report.{Report}

abbrev pub no_use : Float
no_use = of_bits binary64 0

abbrev pub blank_line : CourseLine
blank_line = record { need = 0; required = 0; plate = 0; verdict = Verdict.TheVariants.Short no_use }

abbrev pub blank_report : Report
blank_report =
    record {
      lines = replicate 12 blank_line;
      count = 0;
      pressure = 0;
      moment = 0;
      standing =
          SelfAnchored (record {
            wind = Verdict.TheVariants.Short no_use;
            resistance = 0;
            uplift = Over;
            quake = Verdict.TheVariants.Short no_use;
          });
      uses = record { first = no_use; second = no_use };
      word = Short;
    }
