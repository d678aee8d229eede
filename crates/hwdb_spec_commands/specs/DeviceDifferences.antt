-- What changed for a device from one database to another: by key, what the two give it; and what `diff --devices` prints of it.
-- Our choice.
use Rattle.std.specs.Prelude.{List, ℕ, [], ◌∷◌, ◌++◌, flat_map, map, take}
use Rattle.std.specs.FinMap as finite
use Rattle.hwdb_spec.specs.Assignment.{Assignment}
use Rattle.hwdb_spec_commands.specs.Differences.{Change, differences, origin_text}
use Rattle.hwdb_spec_commands.specs.Differences.Change.{Came, Went, Changed}
use Rattle.hwdb_spec.specs.Explanations.{explained}
use Rattle.hwdb_spec.specs.Lines.{byte}
use Rattle.hwdb_spec.specs.Tree.{Map, Tree, answers, entry_of}

-- the answers of a device that count: for each key the last one (`explained` has it first)
abbrev pub counting_answers : (device : List ℕ) → Tree → List Assignment
counting_answers device t = flat_map (λ p. take 1 p.1) (explained (answers device t))

-- An answer, as an assignment to the device: that is in the place of the pattern. So a record that was only spelt anew, with
-- another pattern, gives the same.
abbrev pub given_to : (device : List ℕ) → Assignment → Assignment
given_to device f =
    record { position = record { priority = f.position.priority; line = f.position.line; pattern = device; key = f.position.key }; value = f.value; path = f.path }

-- what a database gives a device, by key
unfoldable pub gifts : (device : List ℕ) → Tree → Map
gifts device t = finite.from_entries (map entry_of (map (given_to device) (counting_answers device t)))

-- the changes for a device from one database to another, by key: what one of them alone gives, and a key with two values
unfoldable pub device_differences : (device : List ℕ) (old new : Tree) → List Change
device_differences device old new = differences (gifts device old) (gifts device new)

-- the line of a change for a device: as `diff` has it, without a pattern
abbrev pub told_change : Change → List ℕ
told_change (Came new) = byte "+" ∷ byte "\t" ∷ (origin_text new ++ byte "\n" ∷ [])
told_change (Went old) = byte "-" ∷ byte "\t" ∷ (origin_text old ++ byte "\n" ∷ [])
told_change (Changed old new) = byte "~" ∷ byte "\t" ∷ (origin_text old ++ byte "\t" ∷ (origin_text new ++ byte "\n" ∷ []))

-- a line for each change
abbrev pub told_changes : List Change → List ℕ
told_changes changes = flat_map told_change changes

-- the device on a line, and below it a line for each change; nothing if there is none
abbrev pub device_changes_text : (device : List ℕ) → List Change → List ℕ
device_changes_text device [] = []
device_changes_text device (change ∷ more) = device ++ byte "\n" ∷ told_changes (change ∷ more)
