-- What document 01 prints, "The example tank": its text, with the earthquake pull of document 02, S-5, and the needs of S-7, and that with
-- its line for N = 0; that of the tank of S-3, on which the methods differ; the example's from its bytes of version 1, and with liquor in it
-- (S-8); on bolts of size 6, by either version (S-10); and, by its rule, refusals.
use Rattle.std.specs.Prelude.{List, [], ◌∷◌, ◌++◌, ℕ}
use Rattle.fields.specs.declared.refusal.Refusal.{Refusal}
use Rattle.fields.specs.declared.refusal.Refusal.TheVariants.{TooFewBytes, TooManyBytes, BadLength, BadVersion, BadCount, OutOfRange, AllowanceNotBelowPlate, BadAnchors, BufferTooShort, Unreachable, TankStated, NoTank, CoursesFull, ShellTooHigh, NoCourse, NoSite, WaterAboveShell, AnchorsUnstated, SizeDiscontinued, FigureOutOfRange, BadSiteClass, BadMethod, ShellUplift, NotSlender, MomentTooLarge}
use Rattle.lists.specs.Ascii.{ascii}
use Rattle.entries.specs.Sheet.{no_anchors}
use Rattle.entries.specs.declared.sheet.Sheet.{Sheet}
use Rattle.sheet.specs.Complete.{entries_of}
use Rattle.sheet.specs.Writing.{bytes_of}
use Rattle.layout.specs.Cases.{old_bytes, old_with, new_with, example_bytes, liquor_bytes}
use Rattle.claims.specs.Cases.{example_of, example_with, source002_with}

pub record PrintedCase : Type 0 where
  pub bytes : List ℕ
  pub text : List ℕ

abbrev pub prints : List ℕ → List ℕ → PrintedCase
prints bytes text = record { bytes = bytes; text = text }

-- the bytes of a complete sheet
abbrev pub sheet_bytes : Sheet → List ℕ
sheet_bytes s = bytes_of (entries_of s)

abbrev pub up_to_wind : List ℕ
up_to_wind = ascii "course 1 60 188 250 ok\ncourse 2 40 188 250 ok\ncourse 3 20 188 250 ok\nwind 2123 73371\n"

abbrev pub on_anchors : List ℕ
on_anchors = ascii "pull 2133 -191\nanchors spacing ok strength ok\n"

abbrev pub printed_cases : List PrintedCase
printed_cases =
    prints example_bytes (up_to_wind ++ on_anchors ++ ascii "tank sound\n")
    ∷ prints old_bytes (up_to_wind ++ on_anchors ++ ascii "tank sound\n")
    ∷ prints (old_with 6) (up_to_wind ++ on_anchors ++ ascii "tank sound\n")
    ∷ prints (new_with 6) (ascii "refused 39\n")
    ∷ prints liquor_bytes
    (ascii "course 1 70 188 250 ok\ncourse 2 45 188 250 ok\ncourse 3 25 188 250 ok\nwind 2123 73371\n" ++ on_anchors ++ ascii "tank sound\n")
    -- by D100; by API 650 its first course needs 50, which with c comes to just the floor, and the tank would be sound
    ∷ prints (sheet_bytes (source002_with 188 138))
    (ascii "course 1 55 193 188 short\ncourse 2 35 188 188 ok\ncourse 3 20 188 188 ok\nwind 2123 73371\n" ++ on_anchors ++ ascii "tank short\n")
    ∷ prints (sheet_bytes (example_with 105 30000 no_anchors)) (up_to_wind ++ ascii "self wind short resist 94646 none\ntank short\n")
    ∷ prints (sheet_bytes (example_of 1300 105 86799 no_anchors))
    (ascii "course 1 80 188 250 ok\ncourse 2 55 188 250 ok\ncourse 3 30 188 250 ok\nwind 2123 73371\nself wind short resist 110571 lift\ntank short\n")
    ∷ prints (sheet_bytes (example_with 59 30000 no_anchors)) (ascii "refused 16 7\n")
    -- field 20 before 7
    ∷ prints (sheet_bytes (example_of 999 59 30000 no_anchors)) (ascii "refused 16 20\n")
    ∷ prints [] (ascii "refused 11\n")
    ∷ []

-- every refusal, whether bytes can lead to it or not
abbrev pub refusals : List Refusal
refusals =
    TooFewBytes
    ∷ TooManyBytes
    ∷ BadLength
    ∷ BadVersion
    ∷ BadCount
    ∷ OutOfRange 7
    ∷ OutOfRange 19
    ∷ OutOfRange 20
    ∷ AllowanceNotBelowPlate
    ∷ BadAnchors
    ∷ BufferTooShort
    ∷ Unreachable
    ∷ TankStated
    ∷ NoTank
    ∷ CoursesFull
    ∷ ShellTooHigh
    ∷ NoCourse
    ∷ NoSite
    ∷ WaterAboveShell
    ∷ AnchorsUnstated
    ∷ SizeDiscontinued
    ∷ FigureOutOfRange
    ∷ BadSiteClass
    ∷ BadMethod
    ∷ ShellUplift
    ∷ NotSlender
    ∷ MomentTooLarge
    ∷ []

abbrev pub refusal_texts : List (List ℕ)
refusal_texts =
    ascii "refused 11\n"
    ∷ ascii "refused 12\n"
    ∷ ascii "refused 13\n"
    ∷ ascii "refused 14\n"
    ∷ ascii "refused 15\n"
    ∷ ascii "refused 16 7\n"
    ∷ ascii "refused 16 19\n"
    ∷ ascii "refused 16 20\n"
    ∷ ascii "refused 17\n"
    ∷ ascii "refused 18\n"
    ∷ ascii "refused 19\n"
    ∷ ascii "refused 30\n"
    ∷ ascii "refused 31\n"
    ∷ ascii "refused 32\n"
    ∷ ascii "refused 33\n"
    ∷ ascii "refused 34\n"
    ∷ ascii "refused 35\n"
    ∷ ascii "refused 36\n"
    ∷ ascii "refused 37\n"
    ∷ ascii "refused 38\n"
    ∷ ascii "refused 39\n"
    ∷ ascii "refused 40\n"
    ∷ ascii "refused 41\n"
    ∷ ascii "refused 42\n"
    ∷ ascii "refused 43\n"
    ∷ ascii "refused 44\n"
    ∷ ascii "refused 45\n"
    ∷ []
