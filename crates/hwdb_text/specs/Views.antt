-- What the types of this crate mean.
use Rattle.std.specs.Prelude.{List, ℕ, length, false, ◌≡◌, ◌≤◌, ◌<◌}
use Rattle.hwdb_spec.specs.Lines.{has, max_pattern}
use Rattle.std.specs.Borrow.{Bor}
use Rattle.std.specs.String.{string_bytes}
use Rattle.hwdb_spec.specs.Assignment.{Assignment}
use Rattle.hwdb_text.specs.declared.outcome.Assignment.{Assignment as OwnedAssignment}
use Rattle.hwdb_text.specs.declared.outcome.Given.{Given}
use Rattle.hwdb_spec.specs.Records.{Origin}
use Rattle.hwdb_spec.specs.Folders.{Choice, path_of}
use Rattle.hwdb_text.specs.declared.choice.Chosen.{Chosen}
use Rattle.hwdb_text.specs.declared.choice.ChosenFile.{ChosenFile}

abbrev pub assigned : OwnedAssignment → Assignment
assigned a = record {
  position = record { priority = a.priority; line = a.line; pattern = a.pattern.items; key = a.key.items };
  value = a.value.items;
  path = a.path.items;
}

abbrev pub text_of : Bor (List ℕ) → List ℕ
text_of text = text.now

-- the origin with this path and this priority
abbrev pub origin : List ℕ → ℕ → Origin
origin path priority = record { path = path; priority = priority }

-- what the property at a line gives a pattern
abbrev pub given : Origin → (number : ℕ) → (key value pattern : List ℕ) → Assignment
given o number key value pattern = record {
  position = record { priority = o.priority; line = number; pattern = pattern; key = key };
  value = value;
  path = o.path;
}

-- what a property gives a pattern in a file, as the reader hands it out
abbrev pub given_in : Origin → Given → Assignment
given_in o g = given o g.line g.key.now g.value.now g.pattern.now

-- a text without byte 0
abbrev pub HasNoZero : List ℕ → Type 0
HasNoZero text = has 0 text ≡ false

-- what is read of a file; its path and priority are the caller's
pub record IsStorable (a : Assignment) : Type 0 where
  pub short : length a.position.pattern ≤ max_pattern
  pub pattern : HasNoZero a.position.pattern
  pub key : HasNoZero a.position.key
  pub value : HasNoZero a.value

-- the path and the priority of a chosen file
pub record IsStorableChoice (c : Choice) : Type 0 where
  pub path : HasNoZero (path_of c)
  pub priority : 0 < c.priority

abbrev pub choice_of : Chosen → Choice
choice_of c = record { from_etc = c.from_etc; name = string_bytes c.name; priority = c.priority }

-- which file was chosen, and what it holds
abbrev pub choice_in : ChosenFile → Choice
choice_in f = choice_of f.choice.now

abbrev pub bytes_in : ChosenFile → List ℕ
bytes_in f = f.bytes.now
