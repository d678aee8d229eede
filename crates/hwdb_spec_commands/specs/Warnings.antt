-- What `check` warns of: lines that are read, but hardly as they were meant. Our choice.
use Rattle.std.specs.Prelude.{Bool, true, false, ℕ, List, [], ◌∷◌, ◌++◌, ◌+◌, ◌-◌, Option, None, if◌then◌else◌, codes, drop, filter, flat_map, is_some, length, map, max, nat_eq, nat_lt, not, take}
use Rattle.std.specs.Fmt.{decimal}
use Rattle.std.specs.List.{list_any, position_or_len, prefix_len, starts_with}
use Rattle.std.specs.Option.{unwrap_or}
use Rattle.hwdb_spec.specs.Lines.{Line, begins_with, byte, clean, clean_line, has, has_equals, has_key, is, is_dropped, is_indent, is_long, is_match, is_none, is_property, key, lines, trimmed, value}
use Rattle.hwdb_spec.specs.Assignment.{Assignment}
use Rattle.hwdb_spec.specs.Records.{assignments}
use Rattle.hwdb_spec_commands.specs.Summary.{deepest_for_udev}
use Rattle.hwdb_spec.specs.Folders.{same}
use Rattle.hwdb_spec.specs.Forms.{is_wild}
use Rattle.hwdb_spec.specs.Patterns.{is_reversed, range_place, tokens}
use Rattle.hwdb_spec.specs.Tree.{closed_part, is_open}
use Rattle.hwdb_spec.specs.Texts.{place_text}
use Rattle.hwdb_spec_commands.specs.Properties.{misuse, misuse_hint, misuse_text, property_row}
use Rattle.hwdb_spec_commands.specs.Fragile.{fragile_hint, fragile_place, is_fragile}
use Rattle.hwdb_spec_commands.specs.Kinds.{is_told}
use Rattle.hwdb_spec_commands.specs.Reports.{shown}
use Rattle.hwdb_spec_commands.specs.Surroundings.{is_unpaired, is_unread, unpaired_hint, unread_hint}
use Rattle.hwdb_spec_commands.specs.Unmatched.{is_unmatched, judgement_hint, judgement_of, judgement_place, judgement_text, likelihood_hint, likelihood_of}
use Rattle.hwdb_spec_commands.specs.declared.WarningKind.{WarningKind}
use Rattle.hwdb_spec_commands.specs.declared.vocabulary.Misuse.{Misuse}
use Rattle.hwdb_spec_commands.specs.declared.vocabulary.Misuse.TheVariants.{NearName, OldName, ScanCode, SingularMatrix, TwoDefaults, UnfitValue, UnknownKey, ZeroRow}
use Rattle.hwdb_spec_commands.specs.declared.WarningKind.TheVariants.{ByteOrderMark, CarriageReturn, CutValue, EmptyRange, Fragile, LeadingTab, MayBeTooDeep, Misused, OpenBracket, RepeatedMatch, Replaced, SpacedEquals, TooLongForUdev, Unlikely, Unmatched, Unpaired, Unread}

-- whether the key of a property ends with a space or a tab, or its value begins with one
abbrev pub is_spaced : Line → Bool
is_spaced l = if list_any is_indent (drop (length (key l) - 1) (key l)) then true else list_any is_indent (take 1 (value l))

-- whether a `#` is right after the clean text of a line, so that it cuts the line, and no blank is before it
abbrev pub is_cut : (line clean : Line) → Bool
is_cut line clean = begins_with (byte "#") (drop (length clean.text) line.text)

-- how many bytes of a pattern udev can take from its first wildcard on: 2,048 (`struct linebuf` of sd-hwdb.c) less a byte 0 and one more
abbrev pub longest_rest : ℕ
longest_rest = 2046

-- The bytes of a pattern from its first `*`, `?` or `[` on, which udev puts together while it searches (`trie_fnmatch_f` of sd-hwdb.c).
abbrev pub wild_rest : List ℕ → List ℕ
wild_rest pattern = drop (position_or_len is_wild pattern) pattern

-- Whether udev can't take a match line that is read. Its program of systemd 252 and 257 ends by a signal then, whatever device comes to
-- this pattern, and 262's finds nothing for such a device.
abbrev pub is_too_long : Line → Bool
is_too_long l = if is_match l then (if is_long l then false else nat_lt longest_rest (length (wild_rest l.text))) else false

-- How many bytes a match line may have so that no database of it and others is too deep for udev of systemd 262: a node for each
-- byte is one below the other, and above them is the root (`depth`). Our choice.
abbrev pub longest_line : ℕ
longest_line = deepest_for_udev - 1

-- Whether a database may be too deep with a match line that is read, by what other lines there are. One that is told as too long isn't
-- told once more.
abbrev pub may_be_too_deep : Line → Bool
may_be_too_deep l =
    if is_too_long l then false
    else (if is_match l then (if is_long l then false else nat_lt longest_line (length l.text)) else false)

-- the numbers of the match lines that repeat one of the match lines directly above, which have these texts
unfoldable pub repeated_from : (above : List (List ℕ)) → List Line → List ℕ
repeated_from above [] = []
repeated_from above (l ∷ more) =
    if is_match l then
    (if list_any (same l.text) above then l.number ∷ repeated_from (l.text ∷ above) more
    else repeated_from (l.text ∷ above) more)
    else repeated_from [] more

-- the numbers of the match lines of a file that are in their record already
abbrev pub repeated_lines : List ℕ → List ℕ
repeated_lines file = repeated_from [] (clean (lines file))

-- the greatest of some numbers; 0 if there are none
abbrev pub greatest : List ℕ → ℕ
greatest [] = 0
greatest (n ∷ more) = max n (greatest more)

-- whether an assignment gives a pattern a key, and this value
abbrev pub gives_value : (pattern key value : List ℕ) → Assignment → Bool
gives_value pattern key value a =
    if same a.position.pattern pattern then (if same a.position.key key then same a.value value else false) else false

-- the last line of some assignments that gives a pattern a key, and this value; 0 if none does
abbrev pub last_with : (all : List Assignment) → (pattern key value : List ℕ) → ℕ
last_with all pattern key value = greatest (map (λ a. a.position.line) (filter (gives_value pattern key value) all))

-- Whether an assignment of a file replaces another one, which has its pattern and its key. It is after each line that gives
-- these the value of the other one. So an assignment is replaced exactly if the last line with its pattern and its key, which
-- counts, gives another value.
abbrev pub replaces : (all : List Assignment) → (later earlier : Assignment) → Bool
replaces all later earlier =
    if nat_lt (last_with all earlier.position.pattern earlier.position.key earlier.value) later.position.line then
    (if same later.position.pattern earlier.position.pattern then same later.position.key earlier.position.key else false)
    else false

-- the numbers of the lines of a file that replace what a line of it gives one of its patterns
abbrev pub replacing : (file : List ℕ) → (line : ℕ) → List ℕ
replacing file line =
    let all = assignments (record { path = []; priority = 1 }) file in
    let own = filter (λ a. is line a.position.line) all in
    map (λ a. a.position.line) (filter (λ a. list_any (replaces all a) own) all)

-- what is said of a clean line that is a property with a key; nothing if a blank is beside its `=`
abbrev pub misused : Line → Option Misuse
misused l =
    if is_property l then (if has_equals l then (if has_key l then (if is_spaced l then None else misuse (key l) (value l)) else None) else None)
    else None

-- whether a property has a row, by the key of its clean line
abbrev pub is_known : Line → Bool
is_known l = not (is_none (property_row (key l)))

-- Whether a line of a file, of which this is the clean line, gets a warning. Its clean text begins with the three bytes of a UTF-8
-- byte order mark, or with a tab, and so is a match line. Or a carriage return is in it, which isn't among its trailing blanks. Of
-- a match line: a `[` of it begins no closed bracket; before the first such `[` a range has no members. Of a property that has a
-- key: a blank is beside its first `=`. Of a property with a `=`: a `#` cuts it, before which no blank is. It is a match line that
-- is in its record already. Lines after it replace what it gives. What is known of properties doesn't fit it, or the patterns of
-- its record don't, or the other properties that these are given. It is a pattern that matches no text that udev asks, or none that it
-- likely asks, or one that udev can't take, or with which a database may be too deep. Or it names a machine's firmware beside its model.
abbrev pub warns : (file : List ℕ) → WarningKind → (line clean : Line) → Bool
warns file ByteOrderMark line l = starts_with nat_eq l.text (239 ∷ 187 ∷ 191 ∷ [])
warns file LeadingTab line l = begins_with (byte "\t") l.text
warns file CarriageReturn line l = has (byte "\r") l.text
warns file OpenBracket line l = if is_match l then list_any is_open (tokens l.text) else false
warns file EmptyRange line l = if is_match l then list_any is_reversed (tokens (closed_part l.text)) else false
warns file SpacedEquals line l =
    if is_property l then (if has_equals l then (if has_key l then is_spaced l else false) else false) else false
warns file CutValue line l = if is_property l then (if has_equals l then is_cut line l else false) else false
warns file RepeatedMatch line l = list_any (is l.number) (repeated_lines file)
warns file (Replaced by) line l = not (is_none (replacing file l.number))
warns file (Misused why) line l = is_some (misused l)
warns file (Unread known) line l = is_unread file l.number
warns file Unpaired line l = is_unpaired file l.number
warns file (Unmatched told) line l = is_unmatched (judgement_of l.text)
warns file (Unlikely told) line l = is_unmatched (likelihood_of l.text)
warns file TooLongForUdev line l = is_too_long l
warns file MayBeTooDeep line l = may_be_too_deep l
warns file Fragile line l = if is_match l then is_fragile l.text else false

-- The kinds of warnings that a line may get. That of a replaced one names the last line that replaces. That of a misused one says
-- how, that of an unread one whether it is known, and those of a pattern what is said of it.
abbrev pub line_kinds : (file : List ℕ) → (clean : Line) → List WarningKind
line_kinds file clean =
    ByteOrderMark ∷ LeadingTab ∷ CarriageReturn ∷ OpenBracket ∷ EmptyRange ∷ SpacedEquals ∷ CutValue ∷ RepeatedMatch
    ∷ Replaced (greatest (replacing file clean.number)) ∷ Misused (unwrap_or (misused clean) NearName) ∷ Unread (is_known clean) ∷ Unpaired
    ∷ Unmatched (judgement_of clean.text) ∷ Unlikely (likelihood_of clean.text) ∷ TooLongForUdev ∷ MayBeTooDeep ∷ Fragile ∷ []

-- whether a line gets a warning that is told
abbrev pub gets : (allowed : List (List ℕ)) → (file : List ℕ) → (line clean : Line) → WarningKind → Bool
gets allowed file line clean kind = if is_told allowed kind then warns file kind line clean else false

-- all warnings of a line that are told
abbrev pub all_warnings : (allowed : List (List ℕ)) → (file : List ℕ) → (line clean : Line) → List WarningKind
all_warnings allowed file line clean = filter (gets allowed file line clean) (line_kinds file clean)

-- the warnings of a line of a file; none if the line is dropped
abbrev pub line_warnings : (allowed : List (List ℕ)) → (file : List ℕ) → Line → List WarningKind
line_warnings allowed file l = if is_dropped l then [] else all_warnings allowed file l (clean_line l)

-- the warnings of a file, by line
abbrev pub warnings : (allowed : List (List ℕ)) → List ℕ → List WarningKind
warnings allowed file = flat_map (line_warnings allowed file) (lines file)

-- what is printed of a warning
abbrev pub warning_text : WarningKind → List ℕ
warning_text ByteOrderMark = codes "the pattern begins with a byte order mark"
warning_text LeadingTab = codes "a match line that begins with a tab"
warning_text CarriageReturn = codes "a carriage return in the middle of the line"
warning_text OpenBracket = codes "a [ that is never closed stands for itself"
warning_text EmptyRange = codes "a range without members"
warning_text SpacedEquals = codes "a blank beside the first ="
warning_text CutValue = codes "a # without a blank before it cuts the value"
warning_text RepeatedMatch = codes "a match line that stands in its record already"
warning_text (Replaced by) = codes "an assignment that line " ++ (decimal by ++ codes " replaces")
warning_text (Misused why) = misuse_text why
warning_text (Unread true) = codes "a property that isn't read below its patterns"
warning_text (Unread false) = codes "a property that nothing is known to read"
warning_text Unpaired = codes "a property that is read with others alone"
warning_text (Unmatched told) = judgement_text told
warning_text (Unlikely told) = codes "a string that udev asks hardly goes on like this"
warning_text TooLongForUdev = codes "udev takes at most 2046 bytes from the first *, ? or [ on"
warning_text MayBeTooDeep = codes "with other lines, more than 2047 bytes may be too deep for udev"
warning_text Fragile = codes "a version or a date of the firmware beside the model"

-- after how many bytes of its line a warning is, of a line with this text and this clean text
abbrev pub warning_place : WarningKind → (text clean : List ℕ) → ℕ
warning_place ByteOrderMark text clean = 0
warning_place LeadingTab text clean = 0
warning_place CarriageReturn text clean = position_or_len (is (byte "\r")) text
warning_place OpenBracket text clean = length (closed_part clean)
warning_place EmptyRange text clean = range_place (closed_part clean)
warning_place SpacedEquals text clean = position_or_len (is (byte "=")) text
warning_place CutValue text clean = position_or_len (is (byte "#")) text
warning_place RepeatedMatch text clean = 0
warning_place (Replaced by) text clean = prefix_len is_indent text
warning_place (Misused NearName) text clean = prefix_len is_indent text
warning_place (Misused OldName) text clean = prefix_len is_indent text
warning_place (Misused ScanCode) text clean = prefix_len is_indent text
warning_place (Misused UnknownKey) text clean = position_or_len (is (byte "=")) text + 1
warning_place (Misused UnfitValue) text clean = position_or_len (is (byte "=")) text + 1
warning_place (Misused ZeroRow) text clean = position_or_len (is (byte "=")) text + 1
warning_place (Misused SingularMatrix) text clean = position_or_len (is (byte "=")) text + 1
warning_place (Misused TwoDefaults) text clean = position_or_len (is (byte "=")) text + 1
warning_place (Unread known) text clean = prefix_len is_indent text
warning_place Unpaired text clean = prefix_len is_indent text
warning_place (Unmatched told) text clean = judgement_place told
warning_place (Unlikely told) text clean = judgement_place told
warning_place TooLongForUdev text clean = position_or_len is_wild clean
warning_place MayBeTooDeep text clean = longest_line
warning_place Fragile text clean = fragile_place clean

-- how a property is written that has a blank beside its `=`
abbrev pub spaced_hint : Line → List ℕ
spaced_hint l = codes "write " ++ (shown (trimmed (key l)) ++ byte "=" ∷ shown (drop (prefix_len is_indent (value l)) (value l)))

-- what to do about a warning
abbrev pub warning_hint : WarningKind → (clean : Line) → List ℕ
warning_hint ByteOrderMark clean = codes "save the file without a byte order mark"
warning_hint LeadingTab clean = codes "begin a property with a space"
warning_hint CarriageReturn clean = codes "end each line with a newline alone"
warning_hint OpenBracket clean = codes "close it with a ], or write [[] for the byte"
warning_hint EmptyRange clean = codes "put the lower end of the range first"
warning_hint SpacedEquals clean = spaced_hint clean
warning_hint CutValue clean = codes "put a blank before a comment; a value can't hold a #"
warning_hint RepeatedMatch clean = codes "take one of the two away"
warning_hint (Replaced by) clean = codes "take one of the two away"
warning_hint (Misused why) clean = misuse_hint why (key clean) (value clean)
warning_hint (Unread known) clean = unread_hint known (key clean)
warning_hint Unpaired clean = unpaired_hint (key clean)
warning_hint (Unmatched told) clean = judgement_hint told clean.text
warning_hint (Unlikely told) clean = likelihood_hint told clean.text
warning_hint TooLongForUdev clean = codes "shorten it: systemd 252 and 257 crash at it, and 262 finds nothing"
warning_hint MayBeTooDeep clean = codes "shorten it: systemd 262 refuses a depth of more than 2048, which hwdb verify tells"
warning_hint Fragile clean = fragile_hint clean.text

-- the line of a warning as `update` prints it: where it is, `: warning: `, what is unusual
abbrev pub warning_line : (path : List ℕ) (number : ℕ) → WarningKind → List ℕ
warning_line path number kind = place_text path number ++ codes ": warning: " ++ (warning_text kind ++ byte "\n" ∷ [])
