-- What is printed of a finding. Our choice.
use Rattle.std.specs.Prelude.{List, [], ◌∷◌, ◌++◌, ℕ, codes, flat_map}
use Rattle.std.specs.Fmt.{decimal}
use Rattle.hwdb_spec.specs.Lines.{byte}
use Rattle.hwdb_rulefiles.specs.RuleText.{rows}
use Rattle.hwdb_rulefiles.specs.RuleFiles.{parsed}
use Rattle.hwdb_rulefiles.specs.RuleSpots.{spot}
use Rattle.hwdb_rulefiles.specs.declared.findings.Finding.{Finding}
use Rattle.hwdb_rulefiles.specs.declared.findings.FindingKind.{FindingKind}
use Rattle.hwdb_rulefiles.specs.declared.findings.FindingKind.TheVariants.{NoOperator, NoBrace, NoQuote, NoEnd, WrongEscape, UnknownKey, NoAttribute, SpareAttribute, WrongAttribute, WrongOperator, WrongPrefix, FixedProperty, IdleName, UnknownBuiltin, WrongOption, TakenAsSet, UnknownOption, SecondGoto, SecondLabel, NoSeparator, NoEffect, LongLine, OpenEnd, NoLabel, LongRow}
use Rattle.hwdb_rulefiles.specs.declared.spots.Spot.{Spot}

-- what is wrong, and what udev does
abbrev pub kind_text : FindingKind → List ℕ
kind_text NoOperator = codes "no operator comes after a key: udev leaves the line out"
kind_text NoBrace = codes "the brace after a key isn't closed: udev leaves the line out"
kind_text NoQuote = codes "the value isn't in quotes: udev leaves the line out"
kind_text NoEnd = codes "the value has no closing quote: udev leaves the line out"
kind_text WrongEscape = codes "the value has an escape that C doesn't have: udev leaves the line out"
kind_text UnknownKey = codes "the key isn't known: udev leaves the line out"
kind_text NoAttribute = codes "the key needs an attribute in braces: udev leaves the line out"
kind_text SpareAttribute = codes "the key takes no attribute: udev leaves the line out"
kind_text WrongAttribute = codes "the key doesn't take this attribute: udev leaves the line out"
kind_text WrongOperator = codes "the key doesn't take this operator: udev leaves the line out"
kind_text WrongPrefix = codes "an i is before a value that isn't compared: udev leaves the line out"
kind_text FixedProperty = codes "udev alone sets this property: it leaves the line out"
kind_text IdleName = codes "the name is empty or the kernel's: udev leaves the line out"
kind_text UnknownBuiltin = codes "the builtin isn't known: udev leaves the line out"
kind_text WrongOption = codes "the value of the option isn't one: udev leaves the line out"
kind_text TakenAsSet = codes "the key doesn't take this operator: udev takes = in its place"
kind_text UnknownOption = codes "the option isn't known: udev leaves it out"
kind_text SecondGoto = codes "the line has a GOTO already: udev leaves this one out"
kind_text SecondLabel = codes "the line has a LABEL already: udev takes this one"
kind_text NoSeparator = codes "no comma or blank is between two pairs"
kind_text NoEffect = codes "the line sets nothing and jumps nowhere: udev leaves it out"
kind_text LongLine = codes "the line has 16384 bytes or more: udev leaves it out"
kind_text OpenEnd = codes "the file ends in a backslash: udev leaves its last line out"
kind_text NoLabel = codes "no LABEL with this name comes after the GOTO: udev leaves the GOTO out"
kind_text LongRow = codes "the line has 16384 bytes or more: udev leaves the file out"

-- the name of a kind
abbrev pub kind_name : FindingKind → List ℕ
kind_name NoOperator = codes "no-operator"
kind_name NoBrace = codes "open-brace"
kind_name NoQuote = codes "no-quote"
kind_name NoEnd = codes "open-quote"
kind_name WrongEscape = codes "wrong-escape"
kind_name UnknownKey = codes "unknown-key"
kind_name NoAttribute = codes "no-attribute"
kind_name SpareAttribute = codes "spare-attribute"
kind_name WrongAttribute = codes "wrong-attribute"
kind_name WrongOperator = codes "wrong-operator"
kind_name WrongPrefix = codes "wrong-prefix"
kind_name FixedProperty = codes "fixed-property"
kind_name IdleName = codes "idle-name"
kind_name UnknownBuiltin = codes "unknown-builtin"
kind_name WrongOption = codes "wrong-option"
kind_name TakenAsSet = codes "taken-as-set"
kind_name UnknownOption = codes "unknown-option"
kind_name SecondGoto = codes "second-goto"
kind_name SecondLabel = codes "second-label"
kind_name NoSeparator = codes "no-separator"
kind_name NoEffect = codes "no-effect"
kind_name LongLine = codes "long-line"
kind_name OpenEnd = codes "open-end"
kind_name NoLabel = codes "no-label"
kind_name LongRow = codes "long-row"

-- `:LINE:COLUMN: `
abbrev pub spot_text : Spot → List ℕ
spot_text s = byte ":" ∷ (decimal s.line ++ byte ":" ∷ (decimal s.column ++ codes ": "))

-- `TEXT [KIND]` and a newline
abbrev pub kind_line : FindingKind → List ℕ
kind_line kind = kind_text kind ++ (codes " [" ++ (kind_name kind ++ codes "]\n"))

-- the line of a finding: `PATH:LINE:COLUMN: TEXT [KIND]`
abbrev pub finding_line : (path : List ℕ) → (rows : List (List ℕ)) → Finding → List ℕ
finding_line path rows f = path ++ (spot_text (spot rows f) ++ kind_line f.kind)

-- a line for each finding of a file
abbrev pub report : (path file : List ℕ) → List ℕ
report path file = flat_map (finding_line path (rows file)) (parsed file).findings
