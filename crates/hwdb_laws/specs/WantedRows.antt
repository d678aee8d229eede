-- Worked rows of what `test` says of whole files, and of its status. And of the test files that `test --record` prints.
use Rattle.std.specs.Prelude.{◌++◌, ◌∷◌, ◌≡◌, List, [], None, Some, codes, false, map, true, ℕ}
use Rattle.hwdb_spec.specs.Folders.{Source}
use Rattle.hwdb_spec.specs.Tree.{Tree}
use Rattle.hwdb_spec.specs.Tree.Children.{NoMore}
use Rattle.hwdb_spec.specs.Tree.Tree.{Node}
use Rattle.hwdb_spec_commands.specs.Recorded.{recorded_text, unnamed_why, unsaid}
use Rattle.hwdb_spec_commands.specs.Wanted.{file_held, test_status, test_text}

-- a database that gives `a` an `A`
abbrev pub gives_a : Tree
gives_a = Node (codes "a") (record { priority = 1; line = 2; key = codes " A"; value = codes "1"; path = codes "f" } ∷ []) NoMore

-- a test file
abbrev pub wanted_by : List ℕ → Source
wanted_by text = record { name = codes "t"; bytes = text }

-- A line that holds and one that fails; a file with a malformed line isn't tried, and fails once for each such line. A file without
-- lines holds.
abbrev pub HeldRows : Type 0
HeldRows =
    map (λ text. file_held gives_a (wanted_by text)) (codes "a\n A=1\n !B\n" ∷ codes "a\n A=2\n" ∷ codes "a\n A=1\n B\n ! C\n" ∷ codes "" ∷ [])
    ≡ (true ∷ true ∷ []) ∷ (false ∷ []) ∷ (false ∷ false ∷ []) ∷ [] ∷ []

-- so the status is 1 after a malformed line too
abbrev pub StatusRows : Type 0
StatusRows =
    map (λ text. test_status (wanted_by text ∷ []) gives_a) (codes "a\n A=1\n" ∷ codes "a\n A=2\n" ∷ codes "a\n A=1\n B\n" ∷ codes "" ∷ [])
    ≡ 0 ∷ 1 ∷ 1 ∷ 0 ∷ []

-- what is printed of two files, one after another, and what is counted at the end
abbrev pub TestRows : Type 0
TestRows =
    test_text false (wanted_by (codes "a\n A=2\n") ∷ wanted_by (codes "a\n B\n") ∷ []) gives_a
    ≡ codes "t:2: wanted A=2\n    device: a\n    given: A=1 by f:2\n"
    ++ codes "t:2:2: error: property without =, ignored [no-equals]\n     B\n     ^\n    hint: write it as KEY=VALUE; a match line begins without a space\n2 wanted lines, 2 failed\n"

-- A record for each device, in their order: the property below its file and line, and ` =` of a device that has none. No device gives
-- nothing.
abbrev pub RecordRows : Type 0
RecordRows =
    map (recorded_text gives_a) ((codes "a" ∷ codes "b" ∷ []) ∷ (codes "b" ∷ codes "a" ∷ codes "a" ∷ []) ∷ [] ∷ [])
    ≡ codes "a\n# f:2\n A=1\n\nb\n =\n\n" ∷ codes "b\n =\n\na\n# f:2\n A=1\n\na\n# f:2\n A=1\n\n" ∷ [] ∷ []

-- a database that gives `a` a property with this key and value, by this file
abbrev pub gives : (key value path : List ℕ) → Tree
gives key value path = Node (codes "a") (record { priority = 1; line = 2; key = codes " " ++ key; value = value; path = path } ∷ []) NoMore

-- What can be said: a value that begins with a blank or has `=`, a key that begins with `!`, a device with a tab in front.
abbrev pub SaidRows : Type 0
SaidRows =
    map (λ t. unsaid t (codes "a" ∷ codes "b c" ∷ codes "\tx" ∷ [])) (gives (codes "A") (codes " 1") (codes "f") ∷ gives (codes "A") (codes "=b") (codes "f") ∷ gives (codes "!A") [] (codes "f") ∷ [])
    ≡ None ∷ None ∷ None ∷ []

-- A device or a property that can't be said, the first of several: a `#`, a newline or a blank at the end; a key with `=`, with a blank
-- in front, or none.
abbrev pub UnsaidRows : Type 0
UnsaidRows =
    unsaid gives_a (codes "a" ∷ codes "b#" ∷ codes " c" ∷ [])
    ∷ map (λ t. unsaid t (codes "b" ∷ codes "a" ∷ []))
    (gives (codes "A") (codes "1#") (codes "f") ∷ gives (codes "A") (codes "1\n2") (codes "f") ∷ gives (codes "A") (codes "1 ") (codes "f") ∷ gives (codes "A=") (codes "1") (codes "f")
    ∷ gives (codes " A") (codes "1") (codes "f") ∷ gives [] (codes "1") (codes "f") ∷ [])
    ≡ Some (codes "no test file can name the device 'b#': it has a #, which begins a comment; leave it out")
    ∷ map (λ (said : List ℕ). Some (codes "no test file can say '" ++ (said ++ codes "' of f:2: its line would be read as another one; leave out the device 'a'")))
    (codes "A=1#" ∷ codes "A=1\\x0a2" ∷ codes "A=1 " ∷ codes "A==1" ∷ codes " A=1" ∷ codes "=1" ∷ [])

-- why no line names a device
abbrev pub WhyRows : Type 0
WhyRows =
    map unnamed_why ([] ∷ codes "a\nb" ∷ (97 ∷ 0 ∷ []) ∷ codes "#a" ∷ codes " a" ∷ codes "a " ∷ codes "a\t" ∷ [])
    ≡ codes "it is empty" ∷ codes "it has a newline" ∷ codes "it has a byte 0" ∷ codes "it has a #, which begins a comment" ∷ codes "it begins with a space" ∷ codes "it ends with a blank"
    ∷ codes "it ends with a blank" ∷ []
