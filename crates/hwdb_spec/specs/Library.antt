-- What the C library is told of a database. Our choice.
use Rattle.std.specs.Prelude.{List, ℕ, ◌++◌, ◌∷◌, [], flat_map, unwrap_or, ◌≡◌, None}
use Rattle.hwdb_spec.specs.declared.DbFault.{DbFault}
use Rattle.hwdb_spec.specs.declared.DbFault.TheVariants.{Short, Signature, RecordSizes, Lengths, Strings, Place, Depth, ChildOrder, StringOffset, KeyOrder, Priority}
use Rattle.hwdb_spec.specs.Folders.{Source, all_assignments}
use Rattle.hwdb_spec.specs.Tree.{Tree, answers}
use Rattle.hwdb_spec.specs.Answers.{effective_of, last_assignments}
use Rattle.hwdb_spec.specs.Format.{Applies}
use Rattle.hwdb_spec.specs.Texts.{db_fault_offset}

-- the number of a fault: 1 for B1, to 11 for B11
abbrev pub fault_number : DbFault → ℕ
fault_number Short = 1
fault_number Signature = 2
fault_number RecordSizes = 3
fault_number Lengths = 4
fault_number Strings = 5
fault_number (Place at) = 6
fault_number (Depth at) = 7
fault_number (ChildOrder at) = 8
fault_number (StringOffset at) = 9
fault_number (KeyOrder at) = 10
fault_number (Priority at) = 11

-- its offset, or 0 if it has none
abbrev pub fault_place : DbFault → ℕ
fault_place fault = unwrap_or (db_fault_offset fault) 0

-- a fault with this number and this place applies to the bytes
pub record IsFault (bytes : List ℕ) (number place : ℕ) : Type 0 where
  pub fault : DbFault
  pub stands : Applies bytes fault
  pub numbered : number ≡ fault_number fault
  pub placed : place ≡ fault_place fault

-- a key and a value as C's strings: a byte 0 after each
abbrev pub property_strings : List ℕ × List ℕ → List ℕ
property_strings p = p.0 ++ 0 ∷ (p.1 ++ 0 ∷ [])

-- the strings of some properties, one after another
abbrev pub strings_of : List (List ℕ × List ℕ) → List ℕ
strings_of properties = flat_map property_strings properties

-- the strings of the properties that a database gives a device
abbrev pub device_strings : List ℕ → Tree → List ℕ
device_strings device t = strings_of (effective_of (answers device t))

-- the same over text files: of each key the value of the last assignment among those that match the device
abbrev pub last_strings : (device : List ℕ) (etc usr : List Source) → List ℕ
last_strings device etc usr = strings_of (effective_of (last_assignments device None (all_assignments etc usr)))
