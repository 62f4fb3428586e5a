-- No refusal has the number 0, which as a code stands for none.
-- Assumes nothing.
use mathlib.Core.Path.{◌≡◌, refl}
use mathlib.Core.Bool.{false}
use lib.Dec.{eqb}
use Rattle.fields.specs.Refusal.{code_of}
use Rattle.fields.specs.declared.refusal.Refusal.{Refusal}
use Rattle.fields.specs.declared.refusal.Refusal.TheVariants.{TooFewBytes, TooManyBytes, BadLength, BadVersion, BadCount, OutOfRange, AllowanceNotBelowPlate, BadAnchors, BufferTooShort, Unreachable, TankStated, NoTank, CoursesFull, ShellTooHigh, NoCourse, NoSite, WaterAboveShell, AnchorsUnstated, SizeDiscontinued, FigureOutOfRange, BadSiteClass, BadMethod, ShellUplift, NotSlender, MomentTooLarge}

pub never_zero : (r : Refusal) → eqb (code_of r).number 0 ≡ false
never_zero TooFewBytes = refl
never_zero TooManyBytes = refl
never_zero BadLength = refl
never_zero BadVersion = refl
never_zero BadCount = refl
never_zero (OutOfRange k) = refl
never_zero AllowanceNotBelowPlate = refl
never_zero BadAnchors = refl
never_zero BufferTooShort = refl
never_zero Unreachable = refl
never_zero TankStated = refl
never_zero NoTank = refl
never_zero CoursesFull = refl
never_zero ShellTooHigh = refl
never_zero NoCourse = refl
never_zero NoSite = refl
never_zero WaterAboveShell = refl
never_zero AnchorsUnstated = refl
never_zero SizeDiscontinued = refl
never_zero FigureOutOfRange = refl
never_zero BadSiteClass = refl
never_zero BadMethod = refl
never_zero ShellUplift = refl
never_zero NotSlender = refl
never_zero MomentTooLarge = refl
