-- What was read of both folders, as a plan goes on with it.
use Rattle.std.specs.Prelude.{◌≡◌, ◌≤◌, List, ℕ, length, map, string_bytes}
use Rattle.hwdb_plan.specs.Folders.{Texts, with_texts}
use Rattle.hwdb_plan.specs.Readable.{LeftOut, Readable}
use Rattle.hwdb_spec.specs.Folders.{Choice, Source, choice, chosen_of, contents, max_files, names}
use Rattle.hwdb_spec_commands.specs.LeftOutTold.{AreTold}
use Rattle.hwdb_system.specs.declared.folders.Selection.{Selection}
use Rattle.hwdb_system.specs.declared.left_out.ReadableSelection.{ReadableSelection}
use Rattle.hwdb_text.specs.Views.{choice_of}

-- the names, choices and texts of a selection
abbrev pub texts_in : Selection → Texts
texts_in s = with_texts (map string_bytes s.listed.items) (map choice_of s.chosen.items) (map (λ t. t.items) s.texts.items)

-- a selection is made among these names
pub record IsAmong (etc usr : List (List ℕ)) (s : Selection) : Type 0 where
  pub listed : map string_bytes s.listed.items ≡ usr
  pub chosen : map choice_of s.chosen.items ≡ choice etc usr
  pub few : length (names etc usr) ≤ max_files

-- it is that of the files of both folders
pub record IsSelectionOf (etc usr : List Source) (s : Selection) : Type 0 where
  pub few : length (chosen_of etc usr) ≤ max_files
  pub listed : map string_bytes s.listed.items ≡ map (λ (f : Source). f.name) usr
  pub chosen : map choice_of s.chosen.items ≡ chosen_of etc usr
  pub texts : map (λ t. t.items) s.texts.items ≡ map (contents etc usr) (chosen_of etc usr)

-- ---- files that are left out
-- these are the names of files that are left out, and this is said of them
pub record AreLeftOutBy (root : List ℕ) (gone : List (List ℕ)) (said : List ℕ) (left : LeftOut) : Type 0 where
  pub named : map (λ (c : Choice). c.name) left.files ≡ gone
  pub is_said : said ≡ left.said
  pub told : AreTold root left.files left.said

-- a selection is that of the files that can be read, after such lines
pub record IsReadableOf (root : List ℕ) (r : ReadableSelection) (x : Readable) : Type 0 where
  pub of : IsSelectionOf x.etc x.usr r.selection
  pub is_said : r.said.items ≡ x.left.said
  pub told : AreTold root x.left.files x.left.said

-- the same of a selection alone, if these files are left out
pub record IsSelectionBut (left : LeftOut) (s : Selection) (x : Readable) : Type 0 where
  pub of : IsSelectionOf x.etc x.usr s
  pub gone : x.left ≡ left
