-- The names of faults and warnings, by which `check --json` tells them and `check --allow` leaves warnings out. Our choice.
use Rattle.std.specs.Prelude.{Bool, true, false, ℕ, List, [], codes, not}
use Rattle.std.specs.List.{list_any}
use Rattle.hwdb_spec.specs.Folders.{same}
use Rattle.hwdb_spec.specs.declared.FaultKind.{FaultKind}
use Rattle.hwdb_spec.specs.declared.FaultKind.TheVariants.{EmptyKey, LongMatch, NoEquals, NoProperty, StrayMatch, StrayProperty, ZeroByte}
use Rattle.hwdb_spec.specs.declared.Judgement.{Judgement}
use Rattle.hwdb_spec.specs.declared.Judgement.TheVariants.{Dead, Fine, UnknownPrefix}
use Rattle.hwdb_spec_commands.specs.declared.WarningKind.{WarningKind}
use Rattle.hwdb_spec_commands.specs.declared.WarningKind.TheVariants.{ByteOrderMark, CarriageReturn, CutValue, EmptyRange, Fragile, LeadingTab, MayBeTooDeep, Misused, OpenBracket, RepeatedMatch, Replaced, SpacedEquals, TooLongForUdev, Unlikely, Unmatched, Unpaired, Unread}
use Rattle.hwdb_spec_commands.specs.declared.vocabulary.Misuse.{Misuse}
use Rattle.hwdb_spec_commands.specs.declared.vocabulary.Misuse.TheVariants.{NearName, OldName, ScanCode, SingularMatrix, TwoDefaults, UnfitValue, UnknownKey, ZeroRow}

-- the name of a kind of fault
abbrev pub fault_name : FaultKind → List ℕ
fault_name StrayProperty = codes "stray-property"
fault_name NoProperty = codes "no-property"
fault_name StrayMatch = codes "stray-match"
fault_name NoEquals = codes "no-equals"
fault_name EmptyKey = codes "empty-key"
fault_name ZeroByte = codes "zero-byte"
fault_name LongMatch = codes "long-match"

-- the name of a misuse of a property
abbrev pub misuse_name : Misuse → List ℕ
misuse_name NearName = codes "near-name"
misuse_name OldName = codes "old-name"
misuse_name ScanCode = codes "scan-code"
misuse_name UnknownKey = codes "unknown-key"
misuse_name UnfitValue = codes "unfit-value"
misuse_name ZeroRow = codes "zero-row"
misuse_name SingularMatrix = codes "singular-matrix"
misuse_name TwoDefaults = codes "two-defaults"

-- the name of what is said of a pattern; a fine one has none
abbrev pub judgement_name : Judgement → List ℕ
judgement_name Fine = []
judgement_name UnknownPrefix = codes "unknown-prefix"
judgement_name (Dead place) = codes "dead-pattern"

-- the name of a kind of warning; both that tell what udev can't take have one name
abbrev pub warning_name : WarningKind → List ℕ
warning_name ByteOrderMark = codes "byte-order-mark"
warning_name LeadingTab = codes "leading-tab"
warning_name CarriageReturn = codes "carriage-return"
warning_name OpenBracket = codes "open-bracket"
warning_name EmptyRange = codes "empty-range"
warning_name SpacedEquals = codes "spaced-equals"
warning_name CutValue = codes "cut-value"
warning_name RepeatedMatch = codes "repeated-match"
warning_name (Replaced by) = codes "replaced"
warning_name (Misused why) = misuse_name why
warning_name (Unread true) = codes "unread"
warning_name (Unread false) = codes "unknown-property"
warning_name Unpaired = codes "unpaired"
warning_name (Unmatched told) = judgement_name told
warning_name (Unlikely told) = codes "unlikely-pattern"
warning_name TooLongForUdev = codes "too-long-for-udev"
warning_name MayBeTooDeep = codes "too-long-for-udev"
warning_name Fragile = codes "fragile-pattern"

-- whether a warning is told: its name isn't among those that are allowed
abbrev pub is_told : (allowed : List (List ℕ)) → WarningKind → Bool
is_told allowed kind = not (list_any (same (warning_name kind)) allowed)
