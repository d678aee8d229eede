-- What the laws say of patterns that can't match, and of the names of warnings. A definition that said less would be noticed here.
use Rattle.std.specs.Prelude.{◌∷◌, ◌-◌, ◌≡◌, ◌↔◌, ◌≤◌, ◌⊎◌, ◌++◌, Bool, Contains, List, None, Some, [], codes, false, flat_map, is_some, length, map, replicate, suc, true, ℕ}
use Rattle.hwdb_spec.specs.Forms.{CanMatch, all_bytes_from, expected, judged}
use Rattle.hwdb_spec.specs.Patterns.{tokens}
use Rattle.hwdb_spec_commands.specs.FormTable.{asked}
use Rattle.hwdb_spec_commands.specs.LikelyForms.{likely}
use Rattle.hwdb_spec_commands.specs.Fields.{odd_field, with_fields}
use Rattle.hwdb_spec_commands.specs.Fragile.{fragile_hint, fragile_place, is_fragile, outlasting}
use Rattle.hwdb_spec_commands.specs.Kinds.{warning_name}
use Rattle.hwdb_spec.specs.Lines.{begins_with, byte, is, is_none, max_pattern, pieces}
use Rattle.hwdb_spec_commands.specs.Mends.{begins_field, led_rest, meant_rest, mend_hint, mended, moved, ordered, reason, start_of}
use Rattle.hwdb_spec_commands.specs.Unmatched.{compare_hint, dead_hint, is_like_property, is_unmatched, judgement_hint, judgement_of, judgement_place, judgement_text, lacks_bus, likelihood_hint, likelihood_of, likely_place_hint, place_hint, prefix_hint, runs, runs_hint}
use Rattle.hwdb_spec_commands.specs.Warnings.{is_too_long, may_be_too_deep, warning_place}
use Rattle.hwdb_spec.specs.declared.Judgement.TheVariants.{Dead, Fine, UnknownPrefix}
use Rattle.hwdb_spec_commands.specs.declared.WarningKind.TheVariants.{ByteOrderMark, CarriageReturn, CutValue, EmptyRange, Fragile, LeadingTab, MayBeTooDeep, Misused, OpenBracket, RepeatedMatch, Replaced, SpacedEquals, TooLongForUdev, Unlikely, Unmatched, Unpaired, Unread}
use Rattle.hwdb_spec_commands.specs.declared.WarningKind.{WarningKind}
use Rattle.hwdb_spec_commands.specs.declared.vocabulary.Misuse.TheVariants.{NearName, OldName, ScanCode, SingularMatrix, TwoDefaults, UnfitValue, UnknownKey, ZeroRow}
use Rattle.hwdb_spec_commands.specs.declared.vocabulary.Misuse.{Misuse}
use Rattle.hwdb_spec_commands.specs.declared.kinds.TheConstants.{KINDS}

-- ---- patterns
-- the bytes of a run, from its first one to its last
abbrev pub run_bytes : ℕ × ℕ → List ℕ
run_bytes run = all_bytes_from (suc run.1 - run.0) run.0

-- runs are of all bytes, in their order, and of no others
abbrev pub RunsAreAll : Type 0
RunsAreAll = (bytes : List ℕ) → flat_map run_bytes (runs bytes) ≡ bytes

-- a clean text that is a pattern, no property and not too long, is judged; a dead one with the bytes that can follow
pub record PatternsAreJudged : Type 0 where
  pub judges : (text : List ℕ) → is_none text ≡ false → begins_with (byte " ") text ≡ false → begins_with (byte "\t") text ≡ false
      → length text ≤ max_pattern → judgement_of text ≡ judged asked text
  pub hints : (front : List ℕ) → length front ≤ 256 → place_hint front ≡ runs_hint (runs (expected asked front))
  pub place : (place : ℕ) (pattern : List ℕ) → judgement_place (Dead place) ≡ place
  pub nothing : judgement_of [] ≡ Fine
  pub property : judgement_of (codes " A=b") ≡ Fine
  pub tab : judgement_of (codes "\tA=b") ≡ Fine

-- The same of its likelihood, of a pattern that matches a text that udev asks. So it is told as unlikely exactly if such a text matches it,
-- and none that udev likely asks, or it has what is nearly the name of a field.
pub record LikelihoodIsJudged : Type 0 where
  pub judges : (text : List ℕ) → is_none text ≡ false → begins_with (byte " ") text ≡ false → begins_with (byte "\t") text ≡ false
      → length text ≤ max_pattern → is_unmatched (judged asked text) ≡ false → likelihood_of text ≡ with_fields (judged likely text) text
  pub told_once : (text : List ℕ) → is_unmatched (judgement_of text) ≡ true → likelihood_of text ≡ Fine
  pub exactly : (text : List ℕ) → is_none text ≡ false → begins_with (byte " ") text ≡ false → begins_with (byte "\t") text ≡ false
      → length text ≤ max_pattern
      → (is_unmatched (likelihood_of text) ≡ true) ↔ (CanMatch asked (tokens text) × (CanMatch likely (tokens text) → is_some (odd_field text) ≡ true))
  pub hints : (front : List ℕ) → length front ≤ 256 → likely_place_hint front ≡ runs_hint (runs (expected likely front))
  pub long : likely_place_hint (all_bytes_from 257 0) ≡ compare_hint
  pub begins : likelihood_hint UnknownPrefix (codes "usb:") ≡ compare_hint
  pub said : likelihood_hint Fine (codes "usb:") ≡ []
  pub nothing : likelihood_of [] ≡ Fine
  pub property : likelihood_of (codes " A=b") ≡ Fine
  pub tab : likelihood_of (codes "\tA=b") ≡ Fine

-- What is nearly the name of a field: three small letters after a `*`, and a digit or a capital letter. It is after `dmi:`.
pub record FieldRows : Type 0 where
  pub other : odd_field (codes "evdev:name:Bench:dmi:*svxWORK:*") ≡ Some 22
  pub turned : odd_field (codes "sensor:modalias:acpi:WORK0001*:dmi:*:svnWORK*vprBench1:*") ≡ Some 45
  pub right : odd_field (codes "evdev:name:Bench:dmi:*svnWORK:*pvrBench:*bd05*") ≡ None
  pub longer : odd_field (codes "evdev:name:Bench:dmi:*svnnWORK:*") ≡ None
  pub begins : odd_field (codes "evdev:name:Bench:dmi:*:pn*pnx360*") ≡ None
  pub value : odd_field (codes "evdev:name:Bench:dmi:*:pn*pvc*") ≡ None
  pub before : odd_field (codes "evdev:name:*svxWORK:dmi:*") ≡ None
  pub elsewhere : odd_field (codes "mouse:usb:*:name:dmi:*svxWORK:") ≡ None
  pub hint : likelihood_hint (Dead 22) (codes "evdev:name:Bench:dmi:*svxWORK:*") ≡ codes "did you mean svn?"
  pub dead : with_fields (Dead 3) (codes "evdev:name:Bench:dmi:*svxWORK:*") ≡ Dead 3

-- what is said of them, and what to do
pub record UnmatchedRows : Type 0 where
  pub fine : is_unmatched Fine ≡ false
  pub unknown : is_unmatched UnknownPrefix ≡ true
  pub dead : is_unmatched (Dead 3) ≡ true
  pub begins : judgement_text UnknownPrefix ≡ codes "no string that udev asks begins like this"
  pub goes_on : judgement_text (Dead 3) ≡ codes "no string that udev asks goes on like this"
  pub hex : runs_hint (runs (codes "0123456789ABCDEF")) ≡ codes "put 0-9 or A-F here"
  pub one : runs_hint (runs (codes "v")) ≡ codes "put v here"
  pub three : runs_hint (runs (codes "1ae")) ≡ codes "put 1 or a or e here"
  pub four : runs_hint (runs (codes "1aex")) ≡ compare_hint
  pub none : runs_hint (runs []) ≡ compare_hint
  pub long : place_hint (all_bytes_from 257 0) ≡ compare_hint
  pub meant : prefix_hint (Some (codes "evdev:")) ≡ codes "did you mean evdev:?"
  pub other : prefix_hint None ≡ codes "begin it as udev's strings do, with evdev: or mouse: or usb: and the like"
  pub nothing : judgement_hint Fine (codes "usb:") ≡ []
  pub property : dead_hint (codes "KEYBOARD_KEY_70039=leftmeta") 0 ≡ codes "a property? begin it with a space"
  pub alike : map is_like_property (codes "MOUSE_DPI=800@125" ∷ codes "MOUSE_DPI" ∷ codes "WORKSHOP_LIGHT=1" ∷ codes "a=MOUSE_DPI" ∷ []) ≡ true ∷ false ∷ false ∷ false ∷ []
  pub no_bus : dead_hint (codes "mouse:v046dpc077:*") 6 ≡ codes "after mouse: comes usb:, bluetooth: or ps2:, as in mouse:usb:v046dpc077:*"
  pub other_bus : map lacks_bus (codes "mouse:usb:v046d*" ∷ codes "mouse:v" ∷ codes "touchpad:v046d*" ∷ []) ≡ false ∷ true ∷ false ∷ []

-- ---- patterns as they were likely meant
-- a pattern that a hint writes is one that udev likely asks
abbrev pub MendsAreLikely : Type 0
MendsAreLikely = (pattern : List ℕ) (place : ℕ) (text : List ℕ) → mended pattern place ≡ Some text → CanMatch likely (tokens text)

-- how the rest of a pattern was meant, by the bytes that could be there, and what is said of it
pub record MendRows : Type 0 where
  pub capital : meant_rest (codes "0123456789ABCDEF") (codes "d9p0a*") ≡ Some (codes "D9p0a*")
  pub all_digits : meant_rest (codes "0123456789ABCDEF") (codes "ab12p") ≡ Some (codes "AB12p")
  pub small : meant_rest (codes "0123456789abcdef") (codes "Dp4041:") ≡ Some (codes "dp4041:")
  pub letter : meant_rest (codes "v") (codes "V046D") ≡ Some (codes "v046D")
  pub blanks : meant_rest (codes "0") (codes " \tx y") ≡ Some (codes "x y")
  pub underlined : meant_rest (codes ":_") (codes "(HK)X*") ≡ Some (codes "_HK)X*")
  pub kept : meant_rest (codes ":_") (codes "@X*") ≡ Some (codes ":@X*")
  pub no_underline : meant_rest (codes ":a") (codes "(HK)X*") ≡ Some (codes ":(HK)X*")
  pub colon : meant_rest (codes ":") (codes "rvn*") ≡ Some (codes ":rvn*")
  pub other : meant_rest (codes "0123456789abcdef") (codes "rvn*") ≡ None
  pub end : meant_rest (codes ":") [] ≡ None
  pub missing : led_rest (codes "usb:") (codes "v") (codes "04D9*") ≡ Some (codes "v04D9*")
  pub in_its_place : led_rest (codes "usb:v04D9") (codes "p") (codes ":0024*") ≡ Some (codes "p0024*")
  pub too_much : led_rest (codes "usb:v04d9") (codes "p") (codes ":p0024*") ≡ Some (codes "p0024*")
  pub second_colon : led_rest (codes "dmi:*:pnX:") (codes "pr") (codes ":*") ≡ Some (codes "*")
  pub in_a_word : led_rest (codes "dmi:*:s") (codes "k") (codes "xnX*") ≡ None
  pub one_of_two : led_rest (codes "usb:") (codes "dv") (codes "04D9*") ≡ None
  pub no_rest : led_rest (codes "usb:") (codes "v") [] ≡ None
  pub long : mended (all_bytes_from 257 0) 3 ≡ None
  pub is_capital : reason (codes "ab") (codes "AB") ≡ codes "hexadecimal digits are upper case here"
  pub is_small : reason (codes "AB") (codes "ab") ≡ codes "hexadecimal digits are lower case here"
  pub is_letter : reason (codes "V") (codes "v") ≡ codes "letters are lower case here"
  pub is_blank : reason (codes " x") (codes "x") ≡ codes "no blank is here"
  pub is_colon : reason (codes "r") (codes ":r") ≡ codes "a colon is here"
  pub is_underlined : reason (codes "(HK)X*") (codes "_HK)X*") ≡ codes "udev makes _ of ("
  pub is_letter_led : reason (codes "HK") (codes "_HK") ≡ codes "only _ can be here"
  pub is_missing : reason (codes "04D9*") (codes "v04D9*") ≡ codes "only v can be here"
  pub is_replaced : reason (codes ":0024*") (codes "p0024*") ≡ codes "only p can be here"
  pub is_too_much : reason (codes ":p0024*") (codes "p0024*") ≡ codes "no colon is here"
  pub order : moved (codes "dmi:*:pnA*:svnB*:x") 6 11 16 ≡ codes "dmi:*:svnB*:pnA*:x"
  pub start : map (start_of (codes "ab:c:")) (0 ∷ 2 ∷ 3 ∷ 4 ∷ 5 ∷ []) ≡ 0 ∷ 0 ∷ 3 ∷ 3 ∷ 5 ∷ []
  pub fields : map begins_field (codes "pn*" ∷ codes "svnX" ∷ codes "sv" ∷ codes "*" ∷ []) ≡ true ∷ true ∷ false ∷ false ∷ []
  pub no_field : ordered (codes "mouse:v046d*") 6 ≡ None
  pub reordered : mend_hint (codes "dmi:*:pnA*:svnB*") 12 [] (Some (codes "dmi:*:svnB*:pnA*")) ≡ codes "the fields have another order: write dmi:*:svnB*:pnA*"
  pub written : mend_hint (codes "usb:v04d9*") 7 [] (Some (codes "usb:v04D9*")) ≡ codes "hexadecimal digits are upper case here: write usb:v04D9*"
  pub named : mend_hint (codes "usb:v04d9*") 7 (codes "put v here") None ≡ codes "put v here"

-- ---- what udev can't take
-- whether a line is told that begins so and has so many bytes more
abbrev pub is_told_with : (begin : List ℕ) → (more : ℕ) → Bool
is_told_with begin more = is_too_long (record { number = 1; text = begin ++ replicate more 97 })

-- the bytes from the first wildcard on count, of a match line that isn't left out
pub record TooLongRows : Type 0 where
  pub most : is_told_with (codes "usb:*") 2045 ≡ false
  pub star : is_told_with (codes "usb:*") 2046 ≡ true
  pub question_mark : is_told_with (codes "usb:?") 2046 ≡ true
  pub bracket : is_told_with (codes "usb:[") 2046 ≡ true
  pub plain : is_told_with (codes "usb:") 4000 ≡ false
  pub property : is_told_with (codes " A=*") 2046 ≡ false
  pub left_out : is_told_with (codes "usb:*") 4092 ≡ false
  pub place : warning_place TooLongForUdev (codes "usb:v*") (codes "usb:v*") ≡ 5

-- whether a line is told as perhaps too deep that begins so and has so many bytes more
abbrev pub is_deep_with : (begin : List ℕ) → (more : ℕ) → Bool
is_deep_with begin more = may_be_too_deep (record { number = 1; text = begin ++ replicate more 97 })

-- all bytes count, of a match line that isn't left out and isn't told as too long
pub record TooDeepRows : Type 0 where
  pub most : is_deep_with (codes "usb:") 2043 ≡ false
  pub more : is_deep_with (codes "usb:") 2044 ≡ true
  pub wild : is_deep_with (codes "usb:v*") 2042 ≡ true
  pub told_once : is_deep_with (codes "usb:*") 2046 ≡ false
  pub property : is_deep_with (codes " A=") 2046 ≡ false
  pub left_out : is_deep_with (codes "usb:") 4093 ≡ false
  pub place : warning_place MayBeTooDeep (codes "usb:") (codes "usb:") ≡ 2047

-- ---- what an update of the firmware ends
-- A version, a date or a release without a wildcard, beside a vendor and a product that are named. All of it is after `dmi:`.
pub record FragileRows : Type 0 where
  pub whole : is_fragile (codes "evdev:atkbd:dmi:bvnWORK:bvr1.49:bd08/05/2020:svnWORK:pnBench1:*") ≡ true
  pub date : is_fragile (codes "evdev:name:Bench:dmi:*bd08/05/2020:*svnWORK*:*pnBench*") ≡ true
  pub releases : map is_fragile (codes "dmi:*:br1.49:svnWORK:pnB:*" ∷ codes "dmi:*:efr1.1:svnWORK:pnB:*" ∷ []) ≡ true ∷ true ∷ []
  pub any : is_fragile (codes "evdev:atkbd:dmi:bvn*:bvr*:bd*:svnWORK*:pnBench1*:pvr*") ≡ false
  pub wildcard : map is_fragile (codes "dmi:*:bvr1.?9:svnWORK:pnB:*" ∷ codes "dmi:*:bvr1.[45]:svnWORK:pnB:*" ∷ []) ≡ false ∷ false ∷ []
  pub empty : is_fragile (codes "dmi:bvn:bvr:bd:svnWORK:pnB:*") ≡ false
  pub without : map is_fragile (codes "dmi:*:bvr1.49:*:svnWORK:*" ∷ codes "dmi:*:bvr1.49:*:pnB:*" ∷ codes "dmi:*:bvr1.49:svn*:pn*:*" ∷ []) ≡ false ∷ false ∷ false ∷ []
  pub unfilled : map is_fragile (codes "dmi:*:bvr5.11:svnDefaultstring:pnB:*" ∷ codes "dmi:*:bvr5.11:svnWORK:pnDefaultstring*:*" ∷ []) ≡ false ∷ false ∷ []
  pub before : is_fragile (codes "evdev:name:bd08:svnWORK:pnBench1:dmi:*") ≡ false
  pub elsewhere : is_fragile (codes "evdev:name:bvr1.49:svnWORK:pnBench1:*") ≡ false
  pub places : map fragile_place (codes "evdev:atkbd:dmi:bvnWORK:bvr1.49:*" ∷ codes "dmi:*bd08/05/2020:*" ∷ codes "dmi:bvr*:br1.49:*" ∷ []) ≡ 24 ∷ 4 ∷ 9 ∷ []
  pub at : warning_place Fragile (codes "dmi:bvr1.49:*") (codes "dmi:bvr1.49:*") ≡ 4
  pub written : fragile_hint (codes "evdev:atkbd:dmi:bvnW:bvr1.49:bd08/05/2020:br1.49:efr1.1:svnWORK:pnB:*")
      ≡ codes "after an update of the firmware it matches no more: write evdev:atkbd:dmi:bvnW:bvr*:bd*:br*:efr*:svnWORK:pnB:*"
  pub colon : outlasting (codes "dmi:*bd08/05/2020:svnWORK:pnB:") ≡ codes "dmi:*bd*:svnWORK:pnB:"
  pub mended : is_fragile (outlasting (codes "dmi:bvnW:bvr1.49:bd08/05/2020:br1.49:svnWORK:pnB:")) ≡ false

-- ---- names
-- the names of all kinds of warnings, as `--allow` takes them
abbrev pub kinds : List (List ℕ)
kinds = pieces (is (byte "\n")) KINDS.now

-- kinds of misuses, by number
abbrev pub misuse_number : Misuse → ℕ
misuse_number NearName = 9
misuse_number OldName = 10
misuse_number ScanCode = 11
misuse_number UnknownKey = 12
misuse_number UnfitValue = 13
misuse_number ZeroRow = 14
misuse_number SingularMatrix = 15
misuse_number TwoDefaults = 16

-- kinds of warnings, by number; of `Replaced` and `Unmatched` the line and the place don't matter
abbrev pub kind_number : WarningKind → ℕ
kind_number ByteOrderMark = 0
kind_number LeadingTab = 1
kind_number CarriageReturn = 2
kind_number OpenBracket = 3
kind_number EmptyRange = 4
kind_number SpacedEquals = 5
kind_number CutValue = 6
kind_number RepeatedMatch = 7
kind_number (Replaced by) = 8
kind_number (Misused why) = misuse_number why
kind_number (Unread true) = 17
kind_number (Unread false) = 18
kind_number Unpaired = 19
kind_number (Unmatched UnknownPrefix) = 20
kind_number (Unmatched (Dead place)) = 21
kind_number (Unlikely told) = 22
kind_number TooLongForUdev = 23
kind_number MayBeTooDeep = 23
kind_number Fragile = 24
kind_number (Unmatched Fine) = 25

-- Each kind of warning has its own name among these, and each of them is the name of one kind. Both kinds of what udev can't take count
-- as one.
pub record KindsAreNamed : Type 0 where
  pub each : (kind : WarningKind) → (kind_number kind ≡ 25) ⊎ Contains kinds (warning_name kind)
  pub all : (some : List WarningKind) × (map warning_name some ≡ kinds)
  pub own : (one two : WarningKind) → warning_name one ≡ warning_name two → kind_number one ≡ kind_number two
