-- What a pattern was likely meant to be that no string of udev matches, or none that it likely asks. Our choice.
use Rattle.std.specs.Prelude.{Bool, true, false, ℕ, List, [], ◌∷◌, ◌++◌, ◌+◌, ◌-◌, ◌==◌, ◌&&◌, Option, None, Some, suc, zero, if◌then◌else◌, codes, drop, length, map, nat_lt, not, take}
use Rattle.std.specs.List.{list_any, position_or_len, prefix_len}
use Rattle.std.specs.Option.{option_and_then, option_map, option_or}
use Rattle.hwdb_spec.specs.Forms.{expected, judged}
use Rattle.hwdb_spec.specs.Folders.{same}
use Rattle.hwdb_spec.specs.Lines.{begins_with, byte, has, is, is_indent, is_none}
use Rattle.hwdb_spec.specs.Patterns.{in_span}
use Rattle.hwdb_spec.specs.declared.Judgement.{Judgement}
use Rattle.hwdb_spec.specs.declared.Judgement.TheVariants.{Dead, Fine, UnknownPrefix}
use Rattle.hwdb_spec_commands.specs.LikelyForms.{likely}
use Rattle.hwdb_spec_commands.specs.Properties.{is_hex_digit, lower, row_for}
use Rattle.hwdb_spec_commands.specs.Near.{is_replaced}
use Rattle.hwdb_spec_commands.specs.Reports.{shown, shown_byte}
use Rattle.hwdb_spec_commands.specs.declared.vocabulary.TheConstants.{MACHINE_FIELDS}

-- whether a byte is a small letter
abbrev pub is_small : ℕ → Bool
is_small b = in_span b (97, 122)

-- a small letter as a capital one, any other byte as it is
abbrev pub upper : ℕ → ℕ
upper b = if is_small b then b - 32 else b

-- a byte in the other case than this one has
abbrev pub turned : (first : ℕ) → ℕ → ℕ
turned first b = if is_small first then upper b else lower b

-- how many hexadecimal digits go on with a digit; none after another byte
abbrev pub digits_after : (first : ℕ) → List ℕ → ℕ
digits_after first more = if is_hex_digit first then prefix_len is_hex_digit more else 0

-- a text in the other case than its first byte has, that byte alone or all hexadecimal digits up to the first other byte
abbrev pub recased : (first : ℕ) → List ℕ → List ℕ
recased first more = map (turned first) (first ∷ take (digits_after first more) more) ++ drop (digits_after first more) more

-- whether udev writes `_` in place of a byte that can't be here, if these could be
abbrev pub is_underlined : (next : List ℕ) → ℕ → Bool
is_underlined next b = if is_replaced b then has (byte "_") next else false

-- The rest of a pattern from the byte on with which it goes wrong, as it was likely meant, if one of these bytes could be there: without
-- its blanks, in the other case, with `_` as udev writes it, or after a colon.
abbrev pub meant_rest : (next : List ℕ) → List ℕ → Option (List ℕ)
meant_rest next [] = None
meant_rest next (b ∷ more) =
    if is_indent b then Some (drop (prefix_len is_indent more) more) else
    (if has (turned b b) next then Some (recased b more) else
    (if is_underlined next b then Some (byte "_" ∷ more) else
    (if has (byte ":") next then Some (byte ":" ∷ b ∷ more) else None)))

-- the only byte of some
abbrev pub only_byte : List ℕ → Option ℕ
only_byte [] = None
only_byte (b ∷ []) = Some b
only_byte (b ∷ c ∷ more) = None

-- a rest that begins with a byte but can begin with one alone: that one is in a colon's place, or only the colon is too much; else it is
-- put before the rest
abbrev pub led_by : (own first : ℕ) (more : List ℕ) → List ℕ
led_by own first more = if first == byte ":" then (if begins_with own more then more else own ∷ more) else own ∷ first ∷ more

-- the last byte of a text, as a text
abbrev pub last_of : List ℕ → List ℕ
last_of text = drop (length text - 1) text

-- whether a byte is a colon after another one
abbrev pub is_second_colon : (front : List ℕ) → ℕ → Bool
is_second_colon front b = if b == byte ":" then begins_with (byte ":") (last_of front) else false

-- whether a byte that is no colon comes after a small letter, as in a word
abbrev pub is_in_word : (front : List ℕ) → ℕ → Bool
is_in_word front b = if b == byte ":" then false else list_any is_small (last_of front)

-- the rest of a pattern after a front, as it was likely meant: without a second colon, or as one byte alone could be there; a letter within a
-- word is no sure mend
abbrev pub led_rest : (front next : List ℕ) → List ℕ → Option (List ℕ)
led_rest front next [] = None
led_rest front next (b ∷ more) =
    if is_second_colon front b then Some more else (if is_in_word front b then None else option_map (λ own. led_by own b more) (only_byte next))

-- the bytes that could likely be after the front of a pattern
unfoldable pub likely_after : List ℕ → List ℕ
likely_after front = expected likely front

-- what is said of a pattern by the strings that udev likely asks
unfoldable pub likely_judgement : List ℕ → Judgement
likely_judgement pattern = judged likely pattern

-- a pattern that goes wrong at a place, as it was likely meant there
abbrev pub step : (pattern : List ℕ) (place : ℕ) → Option (List ℕ)
step pattern place =
    let front = take place pattern in
    option_map (λ rest. front ++ rest) (option_or (meant_rest (likely_after front) (drop place pattern)) (led_rest front (likely_after front) (drop place pattern)))

-- a text that was mended at a place, if this is said of it: it is mended again if it goes wrong later
abbrev pub follow : (again : List ℕ → ℕ → Option (List ℕ)) (place : ℕ) (text : List ℕ) → Judgement → Option (List ℕ)
follow again place text Fine = Some text
follow again place text UnknownPrefix = None
follow again place text (Dead at) = if nat_lt place at then again text at else None

-- a pattern that goes wrong at a place, mended there, and again if it goes wrong later
abbrev pub mend_once : (again : List ℕ → ℕ → Option (List ℕ)) (pattern : List ℕ) (place : ℕ) → Option (List ℕ)
mend_once again pattern place = option_and_then (λ text. follow again place text (likely_judgement text)) (step pattern place)

-- a pattern that goes wrong at a place, mended in at most so many steps
unfoldable pub mended_in : (steps : ℕ) → (pattern : List ℕ) (place : ℕ) → Option (List ℕ)
mended_in zero pattern place = None
mended_in (suc n) pattern place = mend_once (mended_in n) pattern place

-- ---- Fields in another order

-- whether a text begins with the name of a field of the machine's MODALIAS
abbrev pub begins_field : List ℕ → Bool
begins_field text =
    if is_none (row_for MACHINE_FIELDS.now (take 3 text)) then not (is_none (row_for MACHINE_FIELDS.now (take 2 text))) else true

-- whether a pattern has a colon at a place, and a field after it
abbrev pub is_field_after : (place : ℕ) (pattern : List ℕ) → Bool
is_field_after place pattern = if begins_with (byte ":") (drop place pattern) then begins_field (drop (suc place) pattern) else false

-- where that part between colons begins which goes up to a place
unfoldable pub start_of : (pattern : List ℕ) → (place : ℕ) → ℕ
start_of pattern zero = zero
start_of pattern (suc n) = if begins_with (byte ":") (drop n pattern) then suc n else start_of pattern n

-- a pattern whose bytes from `start` to `end` come before those from `at` on, with a colon between
abbrev pub moved : (pattern : List ℕ) (at start end : ℕ) → List ℕ
moved pattern at start end =
    take at pattern ++ (take (end - start) (drop start pattern) ++ (byte ":" ∷ (take (start - 1 - at) (drop at pattern) ++ drop end pattern)))

-- whether nothing is said of a pattern
abbrev pub is_fine : Judgement → Bool
is_fine Fine = true
is_fine UnknownPrefix = false
is_fine (Dead place) = false

-- the same with the field from `start` to `end` before a field that begins at a place up to `at`: the last such that udev likely asks
unfoldable pub moved_before : (pattern : List ℕ) (start end : ℕ) → (at : ℕ) → Option (List ℕ)
moved_before pattern start end zero = None
moved_before pattern start end (suc n) =
    if is_field_after n pattern then
    (if is_fine (likely_judgement (moved pattern (suc n) start end)) then Some (moved pattern (suc n) start end)
    else moved_before pattern start end n)
    else moved_before pattern start end n

-- a pattern that goes wrong in a field of the machine, with that field before one that is before it
abbrev pub ordered : (pattern : List ℕ) (place : ℕ) → Option (List ℕ)
ordered pattern place =
    let start = start_of pattern place in
    if begins_field (drop start pattern) then moved_before pattern start (start + position_or_len (is (byte ":")) (drop start pattern)) (start - 1) else None

-- a pattern of at most 256 bytes that goes wrong at a place, as it was likely meant, if that is sure
abbrev pub mended : (pattern : List ℕ) (place : ℕ) → Option (List ℕ)
mended pattern place = if nat_lt 256 (length pattern) then None else option_or (mended_in 4 pattern place) (ordered pattern place)

-- what a letter in the wrong case is
abbrev pub letter_words : ℕ → List ℕ
letter_words b = if is_hex_digit b then codes "hexadecimal digits are " else codes "letters are "

-- which case a letter should have
abbrev pub case_words : ℕ → List ℕ
case_words b = if is_small b then codes "upper case here" else codes "lower case here"

-- whether a colon that came before a rest is gone
abbrev pub is_colon_gone : (first : ℕ) (more now : List ℕ) → Bool
is_colon_gone first more now = first == byte ":" && same (take 1 more) (take 1 now)

-- that one byte alone can be there: the first of a rest
abbrev pub only_words : (now : List ℕ) → List ℕ
only_words now = codes "only " ++ (take 1 now ++ codes " can be here")

-- what is wrong with a byte and the rest of a pattern that was meant so: a colon is too much, or one byte alone can be there
abbrev pub lead_words : (first : ℕ) (more now : List ℕ) → List ℕ
lead_words first more now = if is_colon_gone first more now then codes "no colon is here" else only_words now

-- whether udev wrote `_` in place of a byte, by the rest that was meant from there on
abbrev pub is_underline : (b : ℕ) (now : List ℕ) → Bool
is_underline b now = if is_replaced b then begins_with (byte "_") now else false

-- what is wrong with a byte that udev doesn't write
abbrev pub underline_words : ℕ → List ℕ
underline_words b = codes "udev makes _ of " ++ shown_byte b

-- what is wrong with the rest of a pattern that was meant so
abbrev pub reason : (was now : List ℕ) → List ℕ
reason [] now = []
reason (b ∷ more) now =
    if is_indent b then codes "no blank is here" else
    (if begins_with (byte ":") now then codes "a colon is here" else
    (if begins_with (turned b b) now then letter_words b ++ case_words b else
    (if is_underline b now then underline_words b else lead_words b more now)))

-- what is wrong with a pattern that goes wrong at a place and was meant so: only an order changes what is before the place
abbrev pub mend_reason : (pattern : List ℕ) (place : ℕ) (text : List ℕ) → List ℕ
mend_reason pattern place text =
    if same (take place pattern) (take place text) then reason (drop place pattern) (drop place text) else codes "the fields have another order"

-- what to do about a pattern that goes wrong at a place: it is written as it was likely meant, or there is another hint
abbrev pub mend_hint : (pattern : List ℕ) (place : ℕ) (other : List ℕ) → Option (List ℕ) → List ℕ
mend_hint pattern place other None = other
mend_hint pattern place other (Some text) = mend_reason pattern place text ++ (codes ": write " ++ shown text)
