-- What each refusal is by code: document 01, "Refusals that come from the input" and "from the state", and the answers of document 02's
-- requests. What is promised of a refusal is promised through `code_of`.
use Rattle.std.specs.Prelude.{ℕ, List, ◌++◌, eqb, cond, codes, decimal}
use Rattle.fields.specs.declared.refusal.Code.{Code}
use Rattle.fields.specs.declared.refusal.Refusal.{Refusal}
use Rattle.fields.specs.declared.refusal.Refusal.TheVariants.{TooFewBytes, TooManyBytes, BadLength, BadVersion, BadCount, OutOfRange, AllowanceNotBelowPlate, BadAnchors, BufferTooShort, Unreachable, TankStated, NoTank, CoursesFull, ShellTooHigh, NoCourse, NoSite, WaterAboveShell, AnchorsUnstated, SizeDiscontinued, FigureOutOfRange, BadSiteClass, BadMethod, ShellUplift, NotSlender, MomentTooLarge}

-- the number alone
abbrev pub plain : ℕ → Code
plain n = record { number = n; field = 0 }

abbrev pub code_of : Refusal → Code
code_of TooFewBytes = plain 11
code_of TooManyBytes = plain 12
code_of BadLength = plain 13
code_of BadVersion = plain 14
code_of BadCount = plain 15
code_of (OutOfRange k) = record { number = 16; field = k }
code_of AllowanceNotBelowPlate = plain 17
code_of BadAnchors = plain 18
code_of BufferTooShort = plain 19
code_of Unreachable = plain 30
code_of TankStated = plain 31
code_of NoTank = plain 32
code_of CoursesFull = plain 33
code_of ShellTooHigh = plain 34
code_of NoCourse = plain 35
code_of NoSite = plain 36
code_of WaterAboveShell = plain 37
code_of AnchorsUnstated = plain 38
code_of SizeDiscontinued = plain 39
code_of FigureOutOfRange = plain 40
code_of BadSiteClass = plain 41
code_of BadMethod = plain 42
code_of ShellUplift = plain 43
code_of NotSlender = plain 44
code_of MomentTooLarge = plain 45

-- how it is printed: document 01, "The example tank", "`refused`, a blank, the number, and for 16 a blank and the field"
abbrev pub printed_code : Code → List ℕ
printed_code p = codes "refused " ++ decimal p.number ++ cond (eqb p.number 16) (codes " " ++ decimal p.field) (codes "")
