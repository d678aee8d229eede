-- What the laws say.
use Rattle.std.specs.Prelude.{ℕ, List, [], ◌∷◌, ◌≡◌, ◌↔◌, ◌<◌, ◌≤◌, IsTrue, Some, ⊤, length, take}
use Rattle.hwdb_spec.specs.Patterns.{Matches, Token}
use Rattle.hwdb_spec.specs.Forms.{CanBegin, CanMatch, Form, HasForm, HasOneOf, can_begin, can_match, front_length}
use Rattle.hwdb_spec_commands.specs.FormTable.{Known, asked}
use Rattle.hwdb_spec_commands.specs.FormTexts.{text_among}
use Rattle.hwdb_spec_commands.specs.LikelyForms.{likely}

-- the test that computes is true exactly if some text of one of the forms is matched
abbrev pub FormsAreTested : Type 0
FormsAreTested = (forms : List Form) (ts : List Token) → IsTrue (can_match forms ts) ↔ CanMatch forms ts

-- the same of a text that begins with what is matched
abbrev pub FrontsAreTested : Type 0
FrontsAreTested = (forms : List Form) (ts : List Token) → IsTrue (can_begin forms ts) ↔ CanBegin forms ts

-- each example has its form
abbrev pub EachFits : List Known → Type 0
EachFits [] = ⊤
EachFits (k ∷ more) = HasForm k.form k.example × EachFits more

-- a text that is given has one of the forms, and the tokens match it
abbrev pub TextsFit : Type 0
TextsFit = (forms : List Form) (ts : List Token) (text : List ℕ) → text_among forms ts ≡ Some text → HasOneOf forms text × Matches ts text

-- one is given, if there is such a text
abbrev pub TextsAreFound : Type 0
TextsAreFound = (forms : List Form) (ts : List Token) → CanMatch forms ts → (text : List ℕ) × (text_among forms ts ≡ Some text)

-- no such text is shorter than the one that is given
abbrev pub TextsAreShortest : Type 0
TextsAreShortest =
    (forms : List Form) (ts : List Token) (text other : List ℕ) → text_among forms ts ≡ Some text → HasOneOf forms other → Matches ts other → length text ≤ length other

-- a text of one of the forms begins with the front that is found, if it isn't empty, and with no longer one
abbrev pub FrontsAreLongest : Type 0
FrontsAreLongest =
    (forms : List Form) (ts : List Token)
    → (0 < front_length forms ts → CanBegin forms (take (front_length forms ts) ts))
    × ((n : ℕ) → n ≤ length ts → CanBegin forms (take n ts) → n ≤ front_length forms ts)

-- what udev likely asks is asked: each text of the narrower forms is one of the others
abbrev pub LikelyTextsAreAsked : Type 0
LikelyTextsAreAsked = (text : List ℕ) → HasOneOf likely text → HasOneOf asked text
