-- The example tank's bytes, of either version, both ways, computed by the checker.
-- Assumes nothing.
use mathlib.Core.Path.{◌≡◌, refl}
use lib.ListN.{drop}
use Rattle.layout.specs.Numbers.{four_in}
use Rattle.layout.specs.declared.version.Version.TheVariants.{One, Two}
use Rattle.layout.specs.Layout.{prefix_of, tail_head, layout}
use Rattle.layout.specs.Header.{tank_in, site_in, anchors_in, courses_in, tail_in, is_length, version_for, version_in}
use Rattle.layout.specs.Cases.{example_tank, liquor_tank, example_site, example_anchors, example_courses, old_bytes, example_bytes, liquor_bytes}

pub old_laid : layout One example_tank example_site example_anchors example_courses ≡ old_bytes
unfolding prefix_of tail_head
old_laid = refl

pub example_laid : layout Two example_tank example_site example_anchors example_courses ≡ example_bytes
unfolding prefix_of tail_head
example_laid = refl

pub liquor_laid : layout Two liquor_tank example_site example_anchors example_courses ≡ liquor_bytes
unfolding prefix_of tail_head
liquor_laid = refl

pub versions : (version_in old_bytes ≡ One) × (version_in example_bytes ≡ Two)
unfolding is_length version_for
versions = (refl, refl)

pub old_tank_lem : tank_in One (drop 3 old_bytes) ≡ example_tank
unfolding four_in
old_tank_lem = refl

pub example_tank_lem : tank_in Two (drop 3 example_bytes) ≡ example_tank
unfolding four_in
example_tank_lem = refl

pub liquor_tank_lem : tank_in Two (drop 3 liquor_bytes) ≡ liquor_tank
unfolding four_in
liquor_tank_lem = refl

pub old_tail : tail_in One old_bytes ≡ tail_in Two example_bytes
old_tail = refl

pub example_site_lem : site_in (tail_in Two example_bytes) ≡ example_site
unfolding four_in
example_site_lem = refl

pub example_anchors_lem : anchors_in (drop 20 (tail_in Two example_bytes)) ≡ example_anchors
unfolding four_in
example_anchors_lem = refl

pub example_courses_lem : courses_in 3 (drop 33 (tail_in Two example_bytes)) ≡ example_courses
unfolding four_in
example_courses_lem = refl
