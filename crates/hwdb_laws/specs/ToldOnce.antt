-- What two file systems with the same contents tell of a path, if no reading of them may fail. Our choice.
use Rattle.std.specs.Prelude.{◌≡◌, Err, List, Ok, Result, ℕ}
use Rattle.hwdb_spec.specs.Store.{Contents}
use Rattle.hwdb_spec_commands.specs.Told.{AreReadsOf, Reads}
use Rattle.hwdb_spec_commands.specs.declared.unread.Unread.{Unread}
use Rattle.hwdb_spec_commands.specs.declared.unread.Unread.TheVariants as unread

-- two reasons are of one kind: the words of a cause are the system's, and memory may be refused at any moment
abbrev pub IsOneKind : (u v : Unread) → Type 0
IsOneKind unread.TooLong (unread.Failed cause) = ⊥
IsOneKind (unread.Failed cause) unread.TooLong = ⊥
IsOneKind u v = Unit {0}

-- two answers are one: both tell the same, or neither tells anything, for one kind of reason
abbrev pub IsOneAnswer : {X : Type 0} (one two : Result X Unread) → Type 0
IsOneAnswer (Ok x) (Ok y) = x ≡ y
IsOneAnswer (Ok x) (Err v) = v ≡ unread.Memory
IsOneAnswer (Err u) (Ok y) = u ≡ unread.Memory
IsOneAnswer (Err u) (Err v) = IsOneKind u v

-- what is told of a path, whoever asks for it
abbrev pub ToldIsOne : Type 0
ToldIsOne = (one two : Reads) (contents : Contents) → AreReadsOf one contents (λ path. ⊥) → AreReadsOf two contents (λ path. ⊥) → (path : List ℕ)
    → IsOneAnswer (one.input path) (two.input path) × IsOneAnswer (one.text path) (two.text path) × IsOneAnswer (one.database path) (two.database path)
