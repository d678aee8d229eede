-- What is said of bytes that are no database: which fault it is, where they are, and what to do. `verify` says more words of
-- it, and where it may come from. Our choice.
use Rattle.std.specs.Prelude.{codes, List, ℕ, ◌++◌, if◌then◌else◌, nat_eq}
use Rattle.std.specs.List.{ends_with}
use Rattle.hwdb_spec.specs.declared.DbFault.{DbFault}
use Rattle.hwdb_spec.specs.declared.DbFault.TheVariants.{Short, Signature, RecordSizes, Lengths, Strings, Place, Depth, ChildOrder, StringOffset, KeyOrder, Priority}
use Rattle.hwdb_spec.specs.Texts.{at_offset, db_fault_name, db_fault_offset}
use Rattle.hwdb_spec.specs.Visible.{shown_name}

-- what is wrong with bytes that have a fault of a database
abbrev pub db_fault_words : DbFault → List ℕ
db_fault_words Short = codes "it has fewer than the 80 bytes of a header"
db_fault_words Signature = codes "it doesn't begin with the signature KSLPHHRH"
db_fault_words RecordSizes = codes "its header or its records are shorter than their known fields"
db_fault_words Lengths = codes "its length isn't the one that its header says"
db_fault_words Strings = codes "it has no strings, or the last one has no end"
db_fault_words (Place at) = codes "a node, or its children, isn't where the order of the nodes has it"
db_fault_words (Depth at) = codes "a node is more than 4097 nodes deep"
db_fault_words (ChildOrder at) = codes "a child of a node has byte 0, or one that isn't above that of the child before it"
db_fault_words (StringOffset at) = codes "a string is said to be outside of the strings"
db_fault_words (KeyOrder at) = codes "a key of a node isn't above the key before it"
db_fault_words (Priority at) = codes "the file of an assignment has priority 0"

-- where a fault of a database may come from
abbrev pub db_fault_cause : DbFault → List ℕ
db_fault_cause Short = codes "the file was cut short, or is no hardware database"
db_fault_cause Signature = codes "the file is no hardware database"
db_fault_cause RecordSizes = codes "an old tool wrote the file, or it is damaged"
db_fault_cause Lengths = codes "the file was cut short or written over"
db_fault_cause Strings = codes "the file was cut short or written over"
db_fault_cause fault = codes "the file is damaged, or a tool wrote it that orders its records otherwise"

-- What to do about a file that is no database. A text file is one for `check`, by the end `.hwdb` of its name. Every other
-- file is made anew.
abbrev pub remedy : (path : List ℕ) → List ℕ
remedy path = if ends_with nat_eq path (codes ".hwdb") then codes "'hwdb check' is for text files" else codes "make it anew with 'hwdb update'"

-- a fault of the database at a path
abbrev pub fault_text : (path : List ℕ) → DbFault → List ℕ
fault_text path fault = codes "bad database: " ++ (at_offset (db_fault_name fault) (db_fault_offset fault) ++ (codes ": " ++ shown_name path))

-- the same in one line, with what to do
abbrev pub fault_line : (path : List ℕ) → DbFault → List ℕ
fault_line path fault =
    codes "bad database: " ++ (at_offset (db_fault_name fault) (db_fault_offset fault) ++ (codes ": " ++ (shown_name path ++ (codes ": " ++ remedy path))))

-- three lines on a fault: what is wrong, where it may come from, and what to do; the last one isn't ended
abbrev pub explanation_text : (path : List ℕ) → DbFault → List ℕ
explanation_text path fault =
    codes "\n    " ++ (db_fault_words fault ++ (codes "\n    cause: " ++ (db_fault_cause fault ++ (codes "\n    hint: " ++ remedy path))))

-- the words of `verify`: a fault of the database at a path, and below it what explains it
abbrev pub verdict_text : (path : List ℕ) → DbFault → List ℕ
verdict_text path fault = fault_text path fault ++ explanation_text path fault
