-- Which answers of a file system give which result. The answers are `stat`'s, `lstat`'s and those of a read (POSIX); what is made of
-- them is our choice.
use Rattle.std.specs.Prelude.{◌≡◌, ◌⊎◌, ℕ, List, [], Bool, true, false, Option, Some, None, Result, Ok, Err, MatchOption, MatchResult, Contains, IsUtf8, filter, length, nat_le, pos, if◌then◌else◌}
use Rattle.std.specs.Ordering.{int_eq}
use Rattle.hwdb_spec.specs.Folders.{counts}
use Rattle.hwdb_spec_commands.specs.Ignored.{is_ignored}
use Rattle.hwdb_spec.specs.Lines.{is, pieces}
use Rattle.hwdb_spec.specs.Store.{path_in}
use Rattle.hwdb_spec.specs.Texts.{max_file}
use Rattle.hwdb_spec.specs.declared.causes.Cause.{Cause}
use Rattle.hwdb_spec.specs.declared.causes.Cause.TheVariants as why
use Rattle.hwdb_spec.specs.declared.errors.ToolError.TheVariants.{Read, TooLong, Memory}
use Rattle.hwdb_system.specs.declared.raw.Kind.{Kind}
use Rattle.hwdb_system.specs.declared.raw.Kind.TheVariants.{File, Null, Folder, Pipe, Socket, Device}
use Rattle.hwdb_spec_commands.specs.declared.unread.Unread.{Unread}
use Rattle.hwdb_spec_commands.specs.declared.unread.Unread.TheVariants as unread
use Rattle.hwdb_spec_commands.specs.declared.refusals.Refusal.{Refusal}
use Rattle.hwdb_spec_commands.specs.declared.refusals.Refusal.TheVariants.{Plain, At}

-- a call told the answer, or had no memory for it
abbrev pub IsTold : {X Y : Type 0} (value : Y → X) (answer : Result X Cause) → Result Y Cause → Type 0
IsTold value answer result = MatchResult result (λ y. answer ≡ Ok (value y)) (λ cause. (cause ≡ why.Memory) ⊎ (answer ≡ Err cause))

-- the same of a read
abbrev pub IsToldRead : {X Y : Type 0} (value : Y → X) (answer : Result X Unread) → Result Y Unread → Type 0
IsToldRead value answer result = MatchResult result (λ y. answer ≡ Ok (value y)) (λ w. (w ≡ unread.Memory) ⊎ (answer ≡ Err w))

-- what couldn't be told, as what couldn't be read
abbrev pub failed : Cause → Unread
failed cause = unread.Failed (Some cause)

-- the bytes of what is at a place, if it is a regular file: a file's are read, and nothing else is opened
abbrev pub bytes_of : Kind → (contents : Result (List ℕ) Unread) → Result (List ℕ) Unread
bytes_of File contents = contents
bytes_of Null contents = Err (failed why.Device)
bytes_of Folder contents = Err (failed why.Folder)
bytes_of Pipe contents = Err (failed why.Pipe)
bytes_of Socket contents = Err (failed why.Socket)
bytes_of Device contents = Err (failed why.Device)

-- those of a text file: the null device is an empty one (hwdb(7))
abbrev pub text_of_kind : Kind → (contents : Result (List ℕ) Unread) → Result (List ℕ) Unread
text_of_kind Null contents = Ok []
text_of_kind kind contents = bytes_of kind contents

-- what comes of a place that was told, or wasn't
abbrev pub at_place : {X Y : Type 0} → Result X Cause → (X → Result Y Unread) → Result Y Unread
at_place (Ok place) next = next place
at_place (Err cause) next = Err (failed cause)

-- Why what can't be looked at isn't read. If nothing is there (ENOENT, 2) and something has the name, that is a link to nothing.
abbrev pub missing_cause : Cause → (entry : Result Bool Cause) → Cause
missing_cause (why.System number) (Ok true) = if int_eq number (pos 2) then why.Link else why.System number
missing_cause cause entry = cause

-- what is at a place, or why that isn't told
abbrev pub kind_answer : (entry : Result Bool Cause) → Result Kind Cause → Result Kind Cause
kind_answer entry (Ok kind) = Ok kind
kind_answer entry (Err cause) = Err (missing_cause cause entry)

-- the same of each place to which a path may lead
abbrev pub kinds_at : (entry : Result Bool Cause) (kind : List ℕ → Result Kind Cause) → List ℕ → Result Kind Cause
kinds_at entry kind place = kind_answer entry (kind place)

-- the bytes of a regular file at a place
abbrev pub bytes_at : (kind : List ℕ → Result Kind Cause) (contents : List ℕ → Result (List ℕ) Unread) → List ℕ → Result (List ℕ) Unread
bytes_at kind contents place = at_place (kind place) (λ k. bytes_of k (contents place))

-- those of a text file there: a root's own null device counts by its place
abbrev pub text_at : (null_at : List ℕ → Bool) (kind : List ℕ → Result Kind Cause) (contents : List ℕ → Result (List ℕ) Unread) → List ℕ → Result (List ℕ) Unread
text_at null_at kind contents place =
    if null_at place then Ok [] else at_place (kind place) (λ k. text_of_kind k (contents place))

-- what reading a text file gives
abbrev pub text_answer : (place : Result (List ℕ) Cause) (entry : Result Bool Cause) (null_at : List ℕ → Bool)
    (kind : List ℕ → Result Kind Cause) (contents : List ℕ → Result (List ℕ) Unread) → Result (List ℕ) Unread
text_answer place entry null_at kind contents = at_place place (text_at null_at (kinds_at entry kind) contents)

-- what is there is read
abbrev pub present : {X E : Type 0} → Result X E → Result (Option X) E
present (Ok x) = Ok (Some x)
present (Err w) = Err w

-- whether something has the name: what can't be told is there
abbrev pub there_answer : Result Bool Cause → Bool
there_answer (Ok there) = there
there_answer (Err cause) = true

-- what reading a database gives: none only if nothing has its name, not even a link
abbrev pub database_answer : (entry : Result Bool Cause) (place : Result (List ℕ) Cause) (kind : List ℕ → Result Kind Cause)
    (contents : List ℕ → Result (List ℕ) Unread) → Result (Option (List ℕ)) Unread
database_answer entry place kind contents =
    if there_answer entry then present (at_place place (bytes_at (kinds_at entry kind) contents)) else Ok None

-- the bytes of a file that tells them, unless they are more than a file may have
abbrev pub told_bytes : List ℕ → Result (List ℕ) Unread
told_bytes bytes = if nat_le (length bytes) max_file then Ok bytes else Err unread.TooLong

-- the names in a listing, each with byte 0 after it
abbrev pub entries : List ℕ → List (List ℕ)
entries listing = pieces (is 0) listing

-- those of text files (hwdb(7))
abbrev pub names_answer : Result (Option (List ℕ)) Unread → Result (List (List ℕ)) Unread
names_answer (Ok None) = Ok []
names_answer (Ok (Some listing)) = Ok (filter counts (entries listing))
names_answer (Err w) = Err w

-- those of ignored files
abbrev pub ignored_answer : Result (Option (List ℕ)) Unread → Result (List (List ℕ)) Unread
ignored_answer (Ok None) = Ok []
ignored_answer (Ok (Some listing)) = Ok (filter is_ignored (entries listing))
ignored_answer (Err w) = Err w

-- there was no memory: that may always be said
abbrev pub IsOfMemory : (path : List ℕ) → Refusal → Type 0
IsOfMemory path (Plain error) = error ≡ Memory
IsOfMemory path (At Read at cause) = (at.items ≡ path) × (cause ≡ Some why.Memory)
IsOfMemory path _ = ⊥

-- an error of what couldn't be read names the path, and has its cause
abbrev pub IsRefusedFor : Unread → (path : List ℕ) → Refusal → Type 0
IsRefusedFor w path (At Read at cause) = (at.items ≡ path) × (w ≡ unread.Failed cause)
IsRefusedFor w path (At TooLong at cause) = (at.items ≡ path) × (w ≡ unread.TooLong)
IsRefusedFor w path _ = ⊥

-- an error is what the answer gives, or that there was no memory
abbrev pub IsRefusedAs : {X : Type 0} (answer : Result X Unread) (path : List ℕ) → Refusal → Type 0
IsRefusedAs answer path refusal = IsOfMemory path refusal ⊎ ((w : Unread) × (answer ≡ Err w) × IsRefusedFor w path refusal)

-- the result is what the answer gives, or there was no memory
abbrev pub IsReadAs : {X Y : Type 0} (value : Y → X) (answer : Result X Unread) (path : List ℕ) → Result Y Refusal → Type 0
IsReadAs value answer path result = MatchResult result (λ y. answer ≡ Ok (value y)) (IsRefusedAs answer path)

-- a name in a folder isn't UTF-8, and the error says so
abbrev pub IsMisnamedAt : (folder name : List ℕ) → Refusal → Type 0
IsMisnamedAt folder name (At Read at cause) = (at.items ≡ path_in folder name) × (cause ≡ Some why.Name) × (IsUtf8 name → ⊥)
IsMisnamedAt folder name _ = ⊥

-- an error is what the answer gives, that there was no memory, or that a text file's name isn't UTF-8
abbrev pub IsUnnamed : (answer : Result (List (List ℕ)) Unread) (folder : List ℕ) → Refusal → Type 0
IsUnnamed answer folder refusal =
    IsRefusedAs answer folder refusal ⊎ ((all : List (List ℕ)) × (name : List ℕ) × (answer ≡ Ok all) × Contains all name × IsMisnamedAt folder name refusal)

-- the names are all that the answer gives
abbrev pub AreNamesAs : {Y : Type 0} (value : Y → List (List ℕ)) (answer : Result (List (List ℕ)) Unread) (folder : List ℕ) → Result Y Refusal → Type 0
AreNamesAs value answer folder result = MatchResult result (λ y. answer ≡ Ok (value y)) (IsUnnamed answer folder)

-- whether what is at a place is a folder; what can't be told is none
abbrev pub is_folder : Result Kind Cause → Bool
is_folder (Ok Folder) = true
is_folder (Ok kind) = false
is_folder (Err cause) = false

-- the names are all that the listing of a folder gives; of what is none no names are told
abbrev pub AreFolderNamesAs : {Y : Type 0} (value : Y → List (List ℕ)) (folder : Bool) (answer : Result (List (List ℕ)) Unread) (path : List ℕ) → Result (Option Y) Refusal → Type 0
AreFolderNamesAs value folder answer path result =
    MatchResult result (λ found. MatchOption found (folder ≡ false) (λ y. (folder ≡ true) × (answer ≡ Ok (value y))))
    (λ refusal. IsOfMemory path refusal ⊎ ((folder ≡ true) × IsUnnamed answer path refusal))
