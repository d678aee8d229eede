-- The pattern that almost matched, and where it stopped: what `near` says. Our choice.
use Rattle.std.specs.Prelude.{Bool, true, false, ℕ, zero, suc, List, [], ◌∷◌, ◌++◌, ◌+◌, ◌==◌, None, Option, Some, if◌then◌else◌, codes, drop, filter, flat_map, length, map, nat_le, nat_lt, not, reverse, take}
use Rattle.std.specs.List.{list_any, position_or_len}
use Rattle.std.specs.declared.cmp.Ordering.{Ordering}
use Rattle.std.specs.Ordering.{nat_cmp, ordering_then}
use Rattle.json.specs.Json.{Json, boolean}
use Rattle.hwdb_spec.specs.Assignment.{in_order, text_cmp}
use Rattle.hwdb_spec.specs.Lines.{byte, clean_line, is, is_dropped, is_long, is_match, is_none, Line, lines}
use Rattle.hwdb_spec.specs.Patterns.{Token, in_span, matches, tokens}
use Rattle.hwdb_spec.specs.Forms.{is_star, text_size}
use Rattle.hwdb_spec.specs.Fronts.{Front}
use Rattle.hwdb_spec.specs.Tree.{some_up_to}
use Rattle.hwdb_spec.specs.Texts.{place_text}
use Rattle.hwdb_spec_commands.specs.FirstParts.{part_before}
use Rattle.hwdb_spec_commands.specs.Reports.{mark_line, shown, shown_line}
use Rattle.hwdb_spec_commands.specs.Json.{json_line, number_json, object_of, text_json}

-- ---- where a pattern stops

-- the greatest number up to an end that passes; 0 if none does
unfoldable pub last_up_to : (ℕ → Bool) → ℕ → ℕ
last_up_to test zero = 0
last_up_to test (suc n) = if test (suc n) then suc n else last_up_to test n

-- the least number that passes; the end if none below it does
unfoldable pub first_up_to : (ℕ → Bool) → ℕ → ℕ
first_up_to test zero = 0
first_up_to test (suc n) = if test 0 then 0 else 1 + first_up_to (λ k. test (suc k)) n

-- whether tokens match a front of the device
abbrev pub meets_front : List Token → List ℕ → Bool
meets_front ts device = some_up_to (λ n. matches ts (take n device)) (length device)

-- how many tokens the longest front has that matches a front of the device
abbrev pub front_tokens : List Token → List ℕ → ℕ
front_tokens ts device = last_up_to (λ k. meets_front (take k ts) device) (length ts)

-- the least number of bytes from the device's front on that the longest front matches
abbrev pub front_bytes : List Token → List ℕ → ℕ
front_bytes ts device = first_up_to (λ n. matches (take (front_tokens ts device) ts) (take n device)) (length device)

-- `Stops` as a place that computes; `StopsAreComputed` says that it is the only one
abbrev pub stop_of : List Token → List ℕ → Front
stop_of ts device = record { tokens = front_tokens ts device; bytes = front_bytes ts device }

-- ---- how near a pattern is

-- a letter in lower case; any other byte as it is
abbrev pub lower : ℕ → ℕ
lower b = if in_span b (65, 90) then b + 32 else b

-- a text with its letters in lower case
abbrev pub folded : List ℕ → List ℕ
folded text = map lower text

-- how many of some tokens aren't stars
abbrev pub literals : List Token → ℕ
literals ts = length (filter (λ t. not (is_star t)) ts)

-- the tokens after the longest front that matches a front of the device
abbrev pub unmet : List Token → List ℕ → List Token
unmet ts device = drop (front_tokens ts device) ts

-- How many literals of tokens are matched neither by their longest front nor by the longest back of the rest. A back is a front
-- of what is read from the right.
abbrev pub missing : List Token → List ℕ → ℕ
missing ts device = literals (unmet (reverse (unmet ts device)) (reverse device))

-- how many literals the longest front has that matches a front of the device
abbrev pub front_literals : List Token → List ℕ → ℕ
front_literals ts device = literals (take (front_tokens ts device) ts)

-- a pattern of a text file or a database: the path of its file, the place of that file among others, the line
pub record PatternAt : Type 0 where
  pub path : List ℕ
  pub file : ℕ
  pub line : ℕ
  pub pattern : List ℕ

-- a pattern, how many of its literals are missing, and how many its longest front has, with letters' case folded
pub record Rated : Type 0 where
  pub missing : ℕ
  pub front : ℕ
  pub at : PatternAt

-- how near a pattern is to a device
abbrev pub rated : List ℕ → PatternAt → Rated
rated device at =
    let ts = tokens (folded at.pattern) in
    record { missing = missing ts (folded device); front = front_literals ts (folded device); at = at }

-- the order of places: by file, line, pattern and path
abbrev pub place_cmp : PatternAt → PatternAt → Ordering
place_cmp a b =
    ordering_then (nat_cmp a.file b.file)
    (ordering_then (nat_cmp a.line b.line) (ordering_then (text_cmp a.pattern b.pattern) (text_cmp a.path b.path)))

-- the nearer first: by the literals that are missing, then those of the longest front, then the place
abbrev pub near_cmp : Rated → Rated → Ordering
near_cmp a b =
    ordering_then (nat_cmp a.missing b.missing) (ordering_then (nat_cmp b.front a.front) (place_cmp a.at b.at))

-- whether a pattern matches the device
abbrev pub hits : List ℕ → PatternAt → Bool
hits device at = matches (tokens at.pattern) device

-- those of some patterns that match the device, by file and line, each pattern and place once
abbrev pub matching : List ℕ → List PatternAt → List PatternAt
matching device all = in_order place_cmp (filter (hits device) all)

-- the nearest of some patterns that don't match the device, each pattern and place once; so many at most
abbrev pub nearest : List ℕ → (limit : ℕ) → List PatternAt → List Rated
nearest device limit all = take limit (in_order near_cmp (map (rated device) (filter (λ at. not (hits device at)) all)))

-- ---- the patterns of text files

-- the pattern of a line, if it is a match line of at most 4,096 bytes
abbrev pub patterns_of_line : (path : List ℕ) (file : ℕ) → Line → List PatternAt
patterns_of_line path file l =
    if is_dropped l then []
    else (if is_match (clean_line l) then (if is_long (clean_line l) then [] else record { path = path; file = file; line = l.number; pattern = (clean_line l).text } ∷ [])
    else [])

-- the match lines of a text file, by line
abbrev pub patterns_in : (path : List ℕ) (file : ℕ) (bytes : List ℕ) → List PatternAt
patterns_in path file bytes = flat_map (patterns_of_line path file) (lines bytes)

-- ---- what is printed

-- after how many bytes of a pattern it stops
abbrev pub pattern_place : (pattern : List ℕ) → Front → ℕ
pattern_place pattern f = text_size (take f.tokens (tokens pattern))

-- a text, as it is shown, between two backquotes
abbrev pub quoted : List ℕ → List ℕ
quoted text = byte "`" ∷ (shown text ++ byte "`" ∷ [])

-- the text of the first token of a text
abbrev pub token_text : List ℕ → List ℕ
token_text text = take (text_size (take 1 (tokens text))) text

-- a text up to its first colon, with it: what udev's rules begin each text with that they ask
abbrev pub head_of : List ℕ → List ℕ
head_of text = take (position_or_len (is (byte ":")) text + 1) text

-- whether a text has a colon
abbrev pub has_head : List ℕ → Bool
has_head text = nat_lt (position_or_len (is (byte ":")) text) (length text)

-- a byte that udev always keeps: a letter, a digit or one of `#+-.:=@_` (udev_replace_chars of systemd)
abbrev pub is_kept : ℕ → Bool
is_kept b = if list_any (in_span b) ((48, 57) ∷ (65, 90) ∷ (97, 122) ∷ []) then true else list_any (is b) (codes "#+-.:=@_")

-- a byte of a pattern that udev may have written as `_`: no such one, and no wildcard
abbrev pub is_replaced : ℕ → Bool
is_replaced b = not (if is_kept b then true else list_any (is b) (codes "*?["))

-- two bytes that differ in the case of a letter alone
abbrev pub differ_in_case : ℕ → ℕ → Bool
differ_in_case a b = if a == b then false else lower a == lower b

-- a test of the first bytes of two texts; false if one of them is empty
abbrev pub on_firsts : (ℕ → ℕ → Bool) → List ℕ → List ℕ → Bool
on_firsts test (a ∷ more) (b ∷ rest) = test a b
on_firsts test _ _ = false

-- what is added if the device has the pattern's letter in the other case
abbrev pub case_text : (wanted left : List ℕ) → List ℕ
case_text wanted left = if on_firsts differ_in_case wanted left then codes ": the case of letters counts" else []

-- the device has another byte than the pattern's next token
abbrev pub other_text : (wanted left : List ℕ) → List ℕ
other_text wanted left =
    codes "the device has " ++ (quoted (take 1 left) ++ (codes ", the pattern " ++ (quoted (token_text wanted) ++ case_text wanted left)))

-- udev wrote `_` in place of the pattern's next byte
abbrev pub replaced_text : (wanted : List ℕ) → List ℕ
replaced_text wanted = codes "udev makes `_` of " ++ (quoted (take 1 wanted) ++ codes ": write `_` in the pattern")

-- whether the device has `_`, and the pattern a byte that udev may write so
abbrev pub is_replacement : (wanted left : List ℕ) → Bool
is_replacement wanted left = on_firsts (λ w l. if is_replaced w then l == byte "_" else false) wanted left

-- why a pattern stops at bytes of a device that is so far another one than it takes
abbrev pub byte_text : (wanted left : List ℕ) → List ℕ
byte_text wanted left = if is_replacement wanted left then replaced_text wanted else other_text wanted left

-- what may be meant by a device without a colon: each string that udev asks has one, and a node or a name has none
abbrev pub name_text : (device : List ℕ) → List ℕ
name_text device = codes "; 'hwdb device " ++ (shown device ++ codes "' says what udev asks for a device of this name")

-- why it stops at a device that begins with this part: the pattern begins with another one, or one may be missing before this
abbrev pub other_head : (head : List ℕ) → Option (List ℕ) → List ℕ
other_head head None = codes "the device begins with " ++ (quoted head ++ codes ": begin the pattern with that")
other_head head (Some part) =
    codes "the device begins with " ++ (quoted head ++ (codes ", and most patterns for it have " ++ (quoted part ++ codes " before that; 'hwdb device' says what udev asks")))

-- why it stops before the device's first colon is passed: the two begin with other parts, or the device has none
abbrev pub head_text : (pattern device wanted left : List ℕ) → List ℕ
head_text pattern device wanted left =
    if has_head device then other_head (head_of device) (part_before (head_of device))
    else (if has_head pattern
    then codes "the device has no prefix like " ++ (quoted (head_of pattern) ++ name_text device)
    else byte_text wanted left)

-- Why a pattern stops after so many bytes of a device, and what to do, by what is left of both. One of the two ends, their first
-- parts differ, udev wrote `_`, or another byte is there.
abbrev pub why_text : (pattern device : List ℕ) (met : ℕ) (wanted left : List ℕ) → List ℕ
why_text pattern device met wanted left =
    if is_none left then codes "the device ends here, the pattern goes on: end the pattern here"
    else (if is_none wanted then codes "the pattern ends here, the device goes on: put `*` after it"
    else (if nat_le met (position_or_len (is (byte ":")) device) then head_text pattern device wanted left
    else byte_text wanted left))

-- the line of a place: its path and line, `: `, and what is said of its pattern
abbrev pub said_line : PatternAt → List ℕ → List ℕ
said_line at said = place_text at.path at.line ++ codes ": " ++ (said ++ byte "\n" ∷ [])

-- the report of a pattern that matches; what is shown of it begins at its front
abbrev pub match_report : PatternAt → List ℕ
match_report at = said_line at (codes "the pattern matches") ++ shown_line at.pattern 0

-- a line as it is shown, and the mark below its byte after so many others
abbrev pub marked : List ℕ → ℕ → List ℕ
marked text at = shown_line text at ++ mark_line text at

-- the report of a pattern that stops there: why, and the pattern and the device, each with a mark below its byte
abbrev pub stop_report : (device : List ℕ) → PatternAt → Front → List ℕ
stop_report device at f =
    let place = pattern_place at.pattern f in
    said_line at (why_text at.pattern device f.bytes (drop place at.pattern) (drop f.bytes device))
    ++ (marked at.pattern place ++ marked device f.bytes)

-- the report of a pattern that doesn't match
abbrev pub near_report : List ℕ → Rated → List ℕ
near_report device r = stop_report device r.at (stop_of (tokens r.at.pattern) device)

-- what `near` prints of some patterns: those that match, then the nearest that don't
abbrev pub near_text : List ℕ → (limit : ℕ) → List PatternAt → List ℕ
near_text device limit all = flat_map match_report (matching device all) ++ flat_map (near_report device) (nearest device limit all)

-- a pattern, the device, how far they go together, and whether the pattern matches
abbrev pub place_json : (device : List ℕ) → PatternAt → (pattern_byte device_byte : ℕ) → Bool → Json
place_json device at pattern_byte device_byte matches =
    object_of ((codes "path", text_json at.path) ∷ (codes "line", number_json at.line) ∷ (codes "pattern", text_json at.pattern)
    ∷ (codes "pattern_byte", number_json pattern_byte) ∷ (codes "device", text_json device) ∷ (codes "device_byte", number_json device_byte)
    ∷ (codes "matches", boolean matches) ∷ [])

-- the line of a pattern that matches: both go on to their ends
abbrev pub match_json_line : List ℕ → PatternAt → List ℕ
match_json_line device at = json_line (place_json device at (length at.pattern) (length device) true)

-- the line of a pattern that doesn't match
abbrev pub near_json_line : List ℕ → Rated → List ℕ
near_json_line device r =
    let f = stop_of (tokens r.at.pattern) device in
    json_line (place_json device r.at (pattern_place r.at.pattern f) f.bytes false)

-- what `near --json` prints of some patterns
abbrev pub near_json : List ℕ → (limit : ℕ) → List PatternAt → List ℕ
near_json device limit all = flat_map (match_json_line device) (matching device all) ++ flat_map (near_json_line device) (nearest device limit all)
