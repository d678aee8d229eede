-- How much a finding matters, and what to do about it. Our choice.
use Rattle.std.specs.Prelude.{Bool, true, false, List, ℕ, codes}
use Rattle.hwdb_rulefiles.specs.declared.findings.FindingKind.{FindingKind}
use Rattle.hwdb_rulefiles.specs.declared.findings.FindingKind.TheVariants.{NoOperator, NoBrace, NoQuote, NoEnd, WrongEscape, UnknownKey, NoAttribute, SpareAttribute, WrongAttribute, WrongOperator, WrongPrefix, FixedProperty, IdleName, UnknownBuiltin, WrongOption, TakenAsSet, UnknownOption, SecondGoto, SecondLabel, NoSeparator, NoEffect, LongLine, OpenEnd, NoLabel, LongRow}

-- A fault makes udev leave out a pair, a line or a file. Another finding is a remark: udev takes each pair of the line.
abbrev pub is_fault : FindingKind → Bool
is_fault TakenAsSet = false
is_fault NoSeparator = false
is_fault kind = true

-- what to do about it, one text for each kind
abbrev pub kind_hint : FindingKind → List ℕ
kind_hint NoOperator = codes "put == or != after it to compare, or = to set"
kind_hint NoBrace = codes "close it with a }"
kind_hint NoQuote = codes "put the value in double quotes"
kind_hint NoEnd = codes "close it with a double quote; one after a backslash belongs to the value"
kind_hint WrongEscape = codes "write two backslashes for one, or take the e before the quote away"
kind_hint UnknownKey = codes "udev(7) has all keys, in capitals"
kind_hint NoAttribute = codes "put the attribute in braces after the key"
kind_hint SpareAttribute = codes "take the braces and what is in them away"
kind_hint WrongAttribute = codes "udev(7) has what the key takes in braces"
kind_hint WrongOperator = codes "== and != compare, and =, +=, -= and := set: udev(7) has the keys of each"
kind_hint WrongPrefix = codes "take the i before the quote away"
kind_hint FixedProperty = codes "give the property another name"
kind_hint IdleName = codes "take NAME away: the kernel's name stays without it"
kind_hint UnknownBuiltin = codes "udevadm test-builtin --help lists the builtins"
kind_hint WrongOption = codes "link_priority takes a number, and log_level a level or reset"
kind_hint TakenAsSet = codes "write = here"
kind_hint UnknownOption = codes "udev(7) has all options"
kind_hint SecondGoto = codes "keep one GOTO in a line"
kind_hint SecondLabel = codes "give each LABEL a line of its own"
kind_hint NoSeparator = codes "put a comma between them"
kind_hint NoEffect = codes "add what it sets or runs, or take the line away"
kind_hint LongLine = codes "make several lines of it"
kind_hint OpenEnd = codes "take the backslash away, or put what goes on below it"
kind_hint NoLabel = codes "put the LABEL below it, or take the GOTO away"
kind_hint LongRow = codes "make several lines of it"
