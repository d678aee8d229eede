-- What the errors of recording say.
use Rattle.std.specs.Prelude.{List, Option, Some, ◌≡◌, ℕ}
use Rattle.hwdb_test.specs.declared.recording.RecordError.{RecordError}
use Rattle.hwdb_test.specs.declared.recording.RecordError.TheVariants.{Memory, Unsaid}

-- an error in these words, or want of memory
abbrev pub IsInWords : (words : List ℕ) → RecordError → Type 0
IsInWords words (Unsaid said) = said.items ≡ words
IsInWords words Memory = Unit {0}

-- an error in the words of what no test file says, or want of memory
abbrev pub IsUnsaid : (words : Option (List ℕ)) → RecordError → Type 0
IsUnsaid words (Unsaid said) = words ≡ Some said.items
IsUnsaid words Memory = Unit {0}
