-- The texts that are printed. Their form is our choice; `KEY=VALUE` is that of systemd-hwdb(8).
use Rattle.std.specs.Prelude.{codes, List, ℕ, ◌++◌, ◌∷◌, Ok, ◌<◌, ◌^◌, ◌≡◌, [], flat_map, map, None, Option, Some, take, Bool, false, true}
use Rattle.std.specs.Fmt.{decimal}
use Rattle.hex.specs.Hex.{decode_of, encode_lower}
use Rattle.hwdb_spec.specs.Assignment.{Position, Assignment}
use Rattle.hwdb_spec.specs.declared.Fault.{Fault}
use Rattle.hwdb_spec.specs.declared.DbFault.{DbFault}
use Rattle.hwdb_spec.specs.declared.DbFault.TheVariants.{Short, Signature, RecordSizes, Lengths, Strings, Place, Depth, ChildOrder, StringOffset, KeyOrder, Priority}
use Rattle.hwdb_spec.specs.Lines.{byte, is, pieces}
use Rattle.hwdb_spec.specs.Records.{fault_text}
use Rattle.hwdb_spec.specs.Folders.{FaultIn, Source, all_assignments}
use Rattle.hwdb_spec.specs.Tree.{Tree, answers, answers_after}
use Rattle.hwdb_spec.specs.Answers.{effective_of, last_assignments}
use Rattle.hwdb_spec.specs.Visible.{shown_name}

-- two decimal numbers and two hexadecimal texts, with colons between
abbrev pub position_text : ℕ → ℕ → List ℕ → List ℕ → List ℕ
position_text priority line pattern key = decimal priority ++ byte ":" ∷ (decimal line ++ byte ":" ∷ (pattern ++ byte ":" ∷ key))

-- The text spells the position: its hexadecimal digits are in either case.
pub record IsSpelling (p : Position) (bytes : List ℕ) : Type 0 where
  pub pattern_text : List ℕ
  pub key_text : List ℕ
  pub priority : p.priority < 2 ^ 16
  pub line : p.line < 2 ^ 32
  pub pattern : decode_of pattern_text ≡ Ok p.pattern
  pub key : decode_of key_text ≡ Ok p.key
  pub text : bytes ≡ position_text p.priority p.line pattern_text key_text

-- a text begins with the two numbers of a position, each with its colon
pub record HasNumbers (bytes : List ℕ) : Type 0 where
  pub priority : ℕ
  pub line : ℕ
  pub rest : List ℕ
  pub small_priority : priority < 2 ^ 16
  pub small_line : line < 2 ^ 32
  pub text : bytes ≡ decimal priority ++ 58 ∷ (decimal line ++ 58 ∷ rest)

-- the one text that is written of a position: its hexadecimal digits are in lower case
abbrev pub canonical : Position → List ℕ
canonical p = position_text p.priority p.line (encode_lower p.pattern) (encode_lower p.key)

-- `KEY=VALUE` and a newline
abbrev pub property_text : List ℕ × List ℕ → List ℕ
property_text p = p.0 ++ byte "=" ∷ (p.1 ++ byte "\n" ∷ [])

-- a line for each property
abbrev pub properties_text : List (List ℕ × List ℕ) → List ℕ
properties_text properties = flat_map property_text properties

-- the line of a hit: its position, a tab, the pattern, a tab, the property
abbrev pub hit_text : Assignment → List ℕ
hit_text f = canonical f.position ++ byte "\t" ∷ (f.position.pattern ++ byte "\t" ∷ property_text (f.position.key, f.value))

-- a line for each hit
abbrev pub hits_text : List Assignment → List ℕ
hits_text hits = flat_map hit_text hits

-- the first hits, as many as the limit says; all of them without one
abbrev pub within_limit : Option ℕ → List Assignment → List Assignment
within_limit None hits = hits
within_limit (Some n) hits = take n hits

-- where a fault is: the path, as names are shown, `:`, the line's number
abbrev pub place_text : List ℕ → ℕ → List ℕ
place_text path line = shown_name path ++ byte ":" ∷ decimal line

-- the line of a fault: where it is, `: `, what is wrong
abbrev pub fault_line : List ℕ → Fault → List ℕ
fault_line path f = place_text path f.line ++ codes ": " ++ (fault_text f.kind ++ byte "\n" ∷ [])

-- a line for each fault, with the path of its file
abbrev pub faults_text : List FaultIn → List ℕ
faults_text faults = flat_map (λ f. fault_line f.path f.fault) faults

-- a line for each fault, all with one path
abbrev pub faults_text_at : List ℕ → List FaultIn → List ℕ
faults_text_at path faults = flat_map (λ f. fault_line path f.fault) faults

-- the name of a fault of the database
abbrev pub db_fault_name : DbFault → List ℕ
db_fault_name Short = codes "B1"
db_fault_name Signature = codes "B2"
db_fault_name RecordSizes = codes "B3"
db_fault_name Lengths = codes "B4"
db_fault_name Strings = codes "B5"
db_fault_name (Place at) = codes "B6"
db_fault_name (Depth at) = codes "B7"
db_fault_name (ChildOrder at) = codes "B8"
db_fault_name (StringOffset at) = codes "B9"
db_fault_name (KeyOrder at) = codes "B10"
db_fault_name (Priority at) = codes "B11"

-- the offset at which a fault of the database is, if it has one
abbrev pub db_fault_offset : DbFault → Option ℕ
db_fault_offset (Place at) = Some at
db_fault_offset (Depth at) = Some at
db_fault_offset (ChildOrder at) = Some at
db_fault_offset (StringOffset at) = Some at
db_fault_offset (KeyOrder at) = Some at
db_fault_offset (Priority at) = Some at
db_fault_offset _ = None

-- the name of a fault of the database, and after it the offset, as they are printed
abbrev pub at_offset : List ℕ → Option ℕ → List ℕ
at_offset name None = name
at_offset name (Some at) = name ++ (codes " at " ++ decimal at)

-- how many bytes a text file or a database has at most: 256 MiB
abbrev pub max_file : ℕ
max_file = 268435456

-- the properties that a database gives a device, as text
abbrev pub query_text : List ℕ → Tree → List ℕ
query_text device t = properties_text (effective_of (answers device t))

-- an empty line if more texts follow
abbrev pub empty_line : List (List ℕ) → List ℕ
empty_line [] = []
empty_line (text ∷ more) = byte "\n" ∷ []

-- texts, an empty line between two of them
unfoldable pub with_empty_lines : List (List ℕ) → List ℕ
with_empty_lines [] = []
with_empty_lines (text ∷ more) = text ++ (empty_line more ++ with_empty_lines more)

-- the properties that a database gives each of some devices, as text
abbrev pub queries_text : List (List ℕ) → Tree → List ℕ
queries_text devices t = with_empty_lines (map (λ device. query_text device t) devices)

-- The devices that a text names: its lines. An empty line is the empty device, and a last line without a newline counts.
abbrev pub devices_of : List ℕ → List (List ℕ)
devices_of text = pieces (is (byte "\n")) text

-- the lines of the first hits after a position
abbrev pub list_text : List ℕ → Option Position → Option ℕ → Tree → List ℕ
list_text device after limit t = hits_text (within_limit limit (answers_after device after t))

-- for each key the value of the last assignment among those that match the device, as text
abbrev pub last_values_text : (device : List ℕ) (etc usr : List Source) → List ℕ
last_values_text device etc usr = properties_text (effective_of (last_assignments device None (all_assignments etc usr)))

-- the same for each of some devices
abbrev pub last_values_texts : (devices : List (List ℕ)) (etc usr : List Source) → List ℕ
last_values_texts devices etc usr = with_empty_lines (map (λ device. last_values_text device etc usr) devices)

-- the lines of the first of the last assignments after a position
abbrev pub last_lines_text : (device : List ℕ) (from : Option Position) (limit : Option ℕ) (etc usr : List Source) → List ℕ
last_lines_text device from limit etc usr = hits_text (within_limit limit (last_assignments device from (all_assignments etc usr)))

-- 1 if `strict` and there is a fault, else 0
abbrev pub status_of : Bool → List FaultIn → ℕ
status_of true (f ∷ more) = 1
status_of true [] = 0
status_of false faults = 0
