-- Tallies and their text, to the letter: one below 0, one above, one of 0, and one without a judged course.
use Rattle.std.specs.Prelude.{List, [], ◌∷◌, ℕ, pos, negsuc, Some, None}
use Rattle.lists.specs.Ascii.{ascii}
use Rattle.tally.specs.declared.tally.Tally.{Tally}

pub record TextCase : Type 0 where
  pub tally : Tally
  pub text : List ℕ

abbrev pub text_cases : List TextCase
text_cases =
    record {
      tally = record { read = 6; sound = 1; short = 2; refused = 3; sum = negsuc 56; least = Some (negsuc 62) };
      text = ascii "read 6\nsound 1\nshort 2\nrefused 3\nsum -57\nleast -63\n";
    }
    ∷ record {
      tally = record { read = 12; sound = 10; short = 0; refused = 2; sum = pos 186; least = Some (pos 5) };
      text = ascii "read 12\nsound 10\nshort 0\nrefused 2\nsum 186\nleast 5\n";
    }
    ∷ record {
      tally = record { read = 1; sound = 1; short = 0; refused = 0; sum = pos 0; least = Some (pos 0) };
      text = ascii "read 1\nsound 1\nshort 0\nrefused 0\nsum 0\nleast 0\n";
    }
    ∷ record {
      tally = record { read = 0; sound = 0; short = 0; refused = 0; sum = pos 0; least = None };
      text = ascii "read 0\nsound 0\nshort 0\nrefused 0\nsum 0\nleast none\n";
    }
    ∷ []
