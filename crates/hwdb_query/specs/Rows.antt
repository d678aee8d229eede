-- The last assignments at worked rows, computed from the texts of files.
use Rattle.std.specs.Prelude.{List, ℕ, codes, Option, [], ◌∷◌, None, Some, map, ◌≡◌}
use Rattle.hwdb_spec.specs.Folders.{Source, all_assignments}
use Rattle.hwdb_spec.specs.Assignment.{Position, Assignment}
use Rattle.hwdb_spec.specs.Answers.{last_assignments, effective_of}
use Rattle.hwdb_spec.specs.Explanations.{explained, explanations_text}

abbrev pub file : (name bytes : List ℕ) → Source
file name bytes = record { name = name; bytes = bytes }

abbrev pub position : (priority line : ℕ) (pattern key : List ℕ) → Position
position priority line pattern key = record { priority = priority; line = line; pattern = pattern; key = key }

-- an answer of the file `1.hwdb` in /etc
abbrev pub in_first : Position → (value : List ℕ) → Assignment
in_first place value = record { position = place; value = value; path = codes "/etc/udev/hwdb.d/1.hwdb" }

-- an answer of the file `2.hwdb` in /usr/lib
abbrev pub in_second : Position → (value : List ℕ) → Assignment
in_second place value = record { position = place; value = value; path = codes "/usr/lib/udev/hwdb.d/2.hwdb" }

-- files of both folders, a device and a position, and the last assignments
pub record Row : Type 0 where
  pub etc : List Source
  pub usr : List Source
  pub device : List ℕ
  pub after : Option Position
  pub last : List Assignment

abbrev pub first : List ℕ → List Source
first text = file (codes "1.hwdb") text ∷ []

abbrev pub second : List ℕ → List Source
second text = file (codes "2.hwdb") text ∷ []

abbrev pub two_patterns : List Source
two_patterns = first (codes "a*\n K=1\n\nab\n K=2\n")

abbrev pub rows : List Row
rows =
    record {
      etc = two_patterns;
      usr = [];
      device = codes "ab";
      after = None;
      last = in_first (position 1 2 (codes "a*") (codes "K")) (codes "1") ∷ in_first (position 1 5 (codes "ab") (codes "K")) (codes "2") ∷ [];
    }
    ∷ record {
      etc = two_patterns;
      usr = [];
      device = codes "ab";
      after = Some (position 1 2 (codes "a*") (codes "K"));
      last = in_first (position 1 5 (codes "ab") (codes "K")) (codes "2") ∷ [];
    }
    ∷ record {
      etc = two_patterns;
      usr = [];
      device = codes "ab";
      after = Some (position 1 3 [] []);
      last = in_first (position 1 5 (codes "ab") (codes "K")) (codes "2") ∷ [];
    }
    ∷ record { etc = two_patterns; usr = []; device = codes "x"; after = None; last = [] }
    ∷ record {
      etc = first (codes "a\n K=1\n L=1\n\na\n K=2\n");
      usr = second (codes "a\n L=3\n");
      device = codes "a";
      after = None;
      last = in_first (position 1 6 (codes "a") (codes "K")) (codes "2") ∷ in_second (position 2 2 (codes "a") (codes "L")) (codes "3") ∷ [];
    }
    ∷ record {
      etc = first (codes "x*\nx?\nx*\n K=1\n");
      usr = [];
      device = codes "xy";
      after = None;
      last = in_first (position 1 4 (codes "x*") (codes "K")) (codes "1") ∷ in_first (position 1 4 (codes "x?") (codes "K")) (codes "1") ∷ [];
    }
    ∷ []

abbrev pub LastRows : Type 0
LastRows = map (λ row. last_assignments row.device row.after (all_assignments row.etc row.usr)) rows ≡ map (λ row. row.last) rows

-- the effective list of the row of two files
abbrev pub EffectiveRow : Type 0
EffectiveRow =
    effective_of (last_assignments (codes "a") None (all_assignments (first (codes "a\n K=1\n L=1\n\na\n K=2\n")) (second (codes "a\n L=3\n"))))
    ≡ (codes "K", codes "2") ∷ (codes "L", codes "3") ∷ []

-- what is explained of a device with two patterns and one key, as text
abbrev pub ExplainedRow : Type 0
ExplainedRow =
    explanations_text (explained (last_assignments (codes "ab") None (all_assignments two_patterns [])))
    ≡ codes "K=2\n    /etc/udev/hwdb.d/1.hwdb:5  ab\n  overrides K=1\n    /etc/udev/hwdb.d/1.hwdb:2  a*\n"
