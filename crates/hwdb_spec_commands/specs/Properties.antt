-- What is known of properties: which names they have, which texts are their values, and which prefixes they are read below. And
-- what is said of a property that doesn't fit. Which forms a value has is from the heads of systemd's hwdb files, and from what
-- libinput and udev read. By which other names people call keys is from X's keysyms and from what keys have on them. The rest is
-- our choice.
use Rattle.std.specs.Prelude.{Bool, true, false, ℕ, List, [], ◌∷◌, ◌++◌, ◌+◌, ◌-◌, ◌==◌, Option, None, Some, if◌then◌else◌, codes, drop, length, map, nat_eq, nat_lt, not, take}
use Rattle.std.specs.List.{after_first, before_first, find, list_all, list_any, prefix_len, starts_with}
use Rattle.std.specs.Option.{unwrap_or}
use Rattle.std.specs.Ordering.{is_gt}
use Rattle.hwdb_spec.specs.Assignment.{text_cmp}
use Rattle.hwdb_spec.specs.Folders.{same}
use Rattle.hwdb_spec.specs.Lines.{begins_with, byte, has, is, is_indent, is_none, pieces}
use Rattle.hwdb_spec.specs.Patterns.{in_span}
use Rattle.hwdb_spec_commands.specs.declared.vocabulary.Misuse.{Misuse}
use Rattle.hwdb_spec_commands.specs.declared.vocabulary.Misuse.TheVariants.{NearName, OldName, ScanCode, SingularMatrix, TwoDefaults, UnfitValue, UnknownKey, ZeroRow}
use Rattle.hwdb_spec_commands.specs.declared.vocabulary.Sign.{Sign}
use Rattle.hwdb_spec_commands.specs.declared.vocabulary.Sign.TheVariants.{Minus, Other, Plus, Zero}
use Rattle.hwdb_spec_commands.specs.declared.vocabulary.SignRow.{SignRow}
use Rattle.hwdb_spec_commands.specs.declared.vocabulary.TheConstants.{AXIS_CODES, KEY_HINT, KEY_NAMES, KEY_WORDS, OLD_PROPERTIES, PROPERTIES, VALUE_WORDS}
use Rattle.hwdb_spec_commands.specs.declared.vocabulary.ValueForm.{ValueForm}
use Rattle.hwdb_spec_commands.specs.declared.vocabulary.ValueForm.TheVariants.{Any, Axis, Byte, Choice, Count, Decimal, Integer, Key, Limits, Matrix, Resolutions, Setting, Turn}

-- ---- Rows

-- a text up to its first space
abbrev pub word : List ℕ → List ℕ
word text = before_first (is (byte " ")) text

-- what is after the first space of a text
abbrev pub after_word : List ℕ → List ℕ
after_word text = after_first (is (byte " ")) text

-- whether a row's name is for all names that begin with it: it ends with `_`
abbrev pub is_family : List ℕ → Bool
is_family own = same (drop (length own - 1) own) (codes "_")

-- whether a row is for a name
abbrev pub is_for : (row name : List ℕ) → Bool
is_for row name = if same (word row) name then true else (if is_family (word row) then starts_with nat_eq name (word row) else false)

-- the first row of a table that passes a test; an empty text if none does
abbrev pub first_row : (List ℕ → Bool) → (table : List ℕ) → List ℕ
first_row test table = unwrap_or (find test (pieces (is (byte "\n")) table)) []

-- the row for a name
abbrev pub row_for : (table name : List ℕ) → List ℕ
row_for table name = first_row (λ row. is_for row name) table

-- ---- Names that are nearly alike

-- a letter of ASCII in lower case, any other byte as it is
abbrev pub lower : ℕ → ℕ
lower b = if in_span b (65, 90) then b + 32 else b

-- whether two texts are the same but for the case of letters
abbrev pub same_letters : List ℕ → List ℕ → Bool
same_letters [] [] = true
same_letters [] (y ∷ ys) = false
same_letters (x ∷ xs) [] = false
same_letters (x ∷ xs) (y ∷ ys) = if lower x == lower y then same_letters xs ys else false

-- whether two texts are the same but for the order of their first two bytes
abbrev pub same_after_swap : List ℕ → List ℕ → Bool
same_after_swap xs ys =
    let more = drop 1 xs in
    let rest = drop 1 ys in
    if same_letters (take 1 xs) (take 1 rest) then
    (if same_letters (take 1 more) (take 1 ys) then same_letters (drop 1 more) (drop 1 rest) else false) else false

-- whether two texts are the same but for their first bytes, for the first byte of one, or for the order of their first two
abbrev pub same_after_one : List ℕ → List ℕ → Bool
same_after_one xs ys =
    if same_letters (drop 1 xs) (drop 1 ys) then true else
    (if same_letters (drop 1 xs) ys then true else
    (if same_letters xs (drop 1 ys) then true else same_after_swap xs ys))

-- Whether two texts differ by the case of letters and one byte at most. One text has that byte more than the other, or in place of
-- the other's. Or two bytes, one after the other, are swapped.
abbrev pub is_near : List ℕ → List ℕ → Bool
is_near [] ys = same_after_one [] ys
is_near (x ∷ xs) [] = same_after_one (x ∷ xs) []
is_near (x ∷ xs) (y ∷ ys) = if lower x == lower y then is_near xs ys else same_after_one (x ∷ xs) (y ∷ ys)

-- whether a name begins nearly with another one: with as many bytes, one less or one more
abbrev pub begins_nearly : (own name : List ℕ) → Bool
begins_nearly own name =
    if is_near own (take (length own) name) then true else
    (if is_near own (take (length own - 1) name) then true else is_near own (take (length own + 1) name))

-- whether a name is nearly a row's, or begins nearly so if all names that begin so are meant
abbrev pub is_near_name : (own name : List ℕ) → Bool
is_near_name own name = if is_family own then begins_nearly own name else is_near own name

-- the first row of a table with nearly this name
abbrev pub near_row : (table name : List ℕ) → List ℕ
near_row table name = first_row (λ row. is_near_name (word row) name) table

-- the first row of a table with this name but for the case of letters
abbrev pub letters_row : (table name : List ℕ) → List ℕ
letters_row table name = first_row (λ row. same_letters (word row) name) table

-- ---- Values

-- a decimal digit
abbrev pub is_digit : ℕ → Bool
is_digit b = in_span b (48, 57)

-- a hexadecimal digit in lower case
abbrev pub is_lower_hex_digit : ℕ → Bool
is_lower_hex_digit b = if is_digit b then true else in_span b (97, 102)

-- a hexadecimal digit
abbrev pub is_hex_digit : ℕ → Bool
is_hex_digit b = if is_lower_hex_digit b then true else in_span b (65, 70)

-- one byte or more, and all of them pass a test
abbrev pub is_made_of : (ℕ → Bool) → List ℕ → Bool
is_made_of test text = if is_none text then false else list_all test text

-- a text without its first byte, if that is the one given
abbrev pub without : ℕ → List ℕ → List ℕ
without own text = if begins_with own text then drop 1 text else text

-- decimal digits, after a `-` or not
abbrev pub is_integer : List ℕ → Bool
is_integer text = is_made_of is_digit (without (byte "-") text)

-- decimal digits, one of which isn't 0
abbrev pub is_positive : List ℕ → Bool
is_positive text = if is_made_of is_digit text then list_any (λ b. in_span b (49, 57)) text else false

-- a number from 1 to 360 in at most three digits, after a `-` or not: libinput takes no other turn and no other count of a wheel
abbrev pub is_turn : List ℕ → Bool
is_turn text =
    let size = without (byte "-") text in
    if is_positive size then
    (if nat_lt (length size) 3 then true else (if length size == 3 then not (is_gt (text_cmp size (codes "360"))) else false))
    else false

-- a number from 0 to 100, in at most three digits
abbrev pub is_percent : List ℕ → Bool
is_percent text =
    if is_made_of is_digit text then (if nat_lt (length text) 3 then true else same text (codes "100")) else false

-- a number from 0 to 255, in at most three digits
abbrev pub is_byte : List ℕ → Bool
is_byte text =
    if is_made_of is_digit text then
    (if nat_lt (length text) 3 then true else (if length text == 3 then not (is_gt (text_cmp text (codes "255"))) else false))
    else false

-- digits with a `.` before, among or after them, or without one
abbrev pub is_unsigned : List ℕ → Bool
is_unsigned text =
    if list_all is_digit (before_first (is (byte ".")) text) then
    (if list_all is_digit (after_first (is (byte ".")) text) then
    not (is_none (before_first (is (byte ".")) text ++ after_first (is (byte ".")) text))
    else false) else false

-- such a number, after a sign or not
abbrev pub is_decimal : List ℕ → Bool
is_decimal text = if begins_with (byte "-") text then is_unsigned (drop 1 text) else is_unsigned (without (byte "+") text)

-- a text without the spaces and tabs at its front
abbrev pub unindented : List ℕ → List ℕ
unindented text = drop (prefix_len is_indent text) text

-- what is before the first such byte, or the whole text
abbrev pub before : ℕ → List ℕ → List ℕ
before own text = before_first (is own) text

-- what is after the first such byte, or nothing
abbrev pub after : ℕ → List ℕ → List ℕ
after own text = after_first (is own) text

-- three decimals with commas between; each may have spaces before it
abbrev pub is_matrix_row : List ℕ → Bool
is_matrix_row text =
    if is_decimal (unindented (before (byte ",") text)) then
    (if is_decimal (unindented (before (byte ",") (after (byte ",") text))) then
    is_decimal (unindented (after (byte ",") (after (byte ",") text)))
    else false) else false

-- three such rows with semicolons between
abbrev pub is_matrix : List ℕ → Bool
is_matrix text =
    if is_matrix_row (before (byte ";") text) then
    (if is_matrix_row (before (byte ";") (after (byte ";") text)) then
    is_matrix_row (after (byte ";") (after (byte ";") text))
    else false) else false

-- whether a row of a matrix has no digit but 0: it says that an axis of the sensor points nowhere
abbrev pub is_zero_row : List ℕ → Bool
is_zero_row text = not (list_any (λ b. in_span b (49, 57)) text)

-- whether one of the rows of a matrix is zero
abbrev pub has_zero_row : List ℕ → Bool
has_zero_row text = list_any is_zero_row (pieces (is (byte ";")) text)

-- whether a number without a sign is 1
abbrev pub is_one : List ℕ → Bool
is_one text = if same (before (byte ".") text) (codes "1") then is_zero_row (after (byte ".") text) else false

-- the sign of a number of a matrix that is 1, 0 or -1; any other number is `Other`
abbrev pub sign_of : List ℕ → Sign
sign_of text =
    if is_zero_row text then Zero else
    (if begins_with (byte "-") text then (if is_one (drop 1 text) then Minus else Other)
    else (if is_one (without (byte "+") text) then Plus else Other))

-- the signs of the three numbers of a row
abbrev pub row_signs : List ℕ → SignRow
row_signs text = record {
  x = sign_of (unindented (before (byte ",") text));
  y = sign_of (unindented (before (byte ",") (after (byte ",") text)));
  z = sign_of (unindented (after (byte ",") (after (byte ",") text)));
}

-- the sign of a number with the other sign
abbrev pub turned : Sign → Sign
turned Plus = Minus
turned Minus = Plus
turned sign = sign

-- the sign of a product with a number that isn't known
abbrev pub unknown_times : Sign → Sign
unknown_times Zero = Zero
unknown_times sign = Other

-- the sign of a product
abbrev pub times : Sign → Sign → Sign
times Minus sign = turned sign
times Zero sign = Zero
times Plus sign = sign
times Other sign = unknown_times sign

-- a number for each sign; six signs whose numbers are 6 in all are as often 1 as -1, and none is `Other`
abbrev pub weight : Sign → ℕ
weight Minus = 0
weight Zero = 1
weight Plus = 2
weight Other = 7

-- the number for the product of three signs
abbrev pub weight_of : Sign → Sign → Sign → ℕ
weight_of a b c = weight (times a (times b c))

-- whether three rows have the determinant 0, by its six products (the rule of Sarrus)
abbrev pub is_flat : (a b c : SignRow) → Bool
is_flat a b c =
    weight_of a.x b.y c.z + weight_of a.y b.z c.x + weight_of a.z b.x c.y
    + weight_of (turned a.z) b.y c.x + weight_of (turned a.y) b.x c.z + weight_of (turned a.x) b.z c.y == 6

-- Whether the determinant of a matrix is 0: it maps the three axes onto a plane. This is told of numbers that are 1, 0 or -1, as nearly
-- all are; products with a zero count, whatever their other numbers are.
abbrev pub is_singular : List ℕ → Bool
is_singular text =
    is_flat (row_signs (before (byte ";") text)) (row_signs (before (byte ";") (after (byte ";") text)))
    (row_signs (after (byte ";") (after (byte ";") text)))

-- A number above 0, after a `*` or not, with `@` and such a number after it or without; or nothing. Of a resolution of 0, or at 0 hertz,
-- libinput takes nothing.
abbrev pub is_resolution : List ℕ → Bool
is_resolution text =
    if is_none text then true else
    (if is_positive (before (byte "@") (without (byte "*") text)) then
    (if has (byte "@") text then is_positive (after (byte "@") (without (byte "*") text)) else true)
    else false)

-- resolutions with spaces between
abbrev pub is_resolutions : List ℕ → Bool
is_resolutions text = list_all is_resolution (pieces (is (byte " ")) text)

-- whether more than one of some resolutions is the default: a `*` comes after another one
abbrev pub has_two_defaults : List ℕ → Bool
has_two_defaults text = has (byte "*") (after (byte "*") text)

-- digits, or `0x` and hexadecimal ones
abbrev pub is_number : List ℕ → Bool
is_number text =
    if is_made_of is_digit text then true else
    (if same (before (byte "x") text) (codes "0") then is_made_of is_hex_digit (after (byte "x") text) else false)

-- a number, after a `-` or not; or nothing
abbrev pub is_limit : List ℕ → Bool
is_limit text = if is_none text then true else is_number (without (byte "-") text)

-- at most five limits with colons between: least, greatest, resolution, fuzz and flat value
abbrev pub is_axis : List ℕ → Bool
is_axis text =
    let second = after (byte ":") text in
    let third = after (byte ":") second in
    let fourth = after (byte ":") third in
    if is_limit (before (byte ":") text) then
    (if is_limit (before (byte ":") second) then
    (if is_limit (before (byte ":") third) then
    (if is_limit (before (byte ":") fourth) then is_limit (after (byte ":") fourth) else false) else false) else false) else false

-- a percentage, or `_`
abbrev pub is_charge : List ℕ → Bool
is_charge text = if same text (codes "_") then true else is_percent text

-- two charges with a comma between
abbrev pub is_limits : List ℕ → Bool
is_limits text = if is_charge (before (byte ",") text) then is_charge (after (byte ",") text) else false

-- whether a text is the name of a key in linux/input-event-codes.h in lower case, without `key_`
abbrev pub is_key_name : List ℕ → Bool
is_key_name text = not (is_none (row_for KEY_NAMES.now text))

-- the name of a key after `key_`; a button has `btn_` in its place
abbrev pub is_prefixed_key : List ℕ → Bool
is_prefixed_key text =
    if starts_with nat_eq text (codes "key_") then
    (if starts_with nat_eq text (codes "key_btn_") then false else is_key_name (drop 4 text)) else false

-- a number, or the name of a key
abbrev pub is_key : List ℕ → Bool
is_key text = if is_number text then true else (if is_key_name text then true else is_prefixed_key text)

-- a letter, a digit, or one of `+`, `-`, `.`, `/`, `@` and `_`
abbrev pub is_setting_byte : ℕ → Bool
is_setting_byte b = list_any (in_span b) ((43, 43) ∷ (45, 57) ∷ (64, 90) ∷ (95, 95) ∷ (97, 122) ∷ [])

-- one of the words that a form has, with a bar between each two
abbrev pub is_choice : (form text : List ℕ) → Bool
is_choice form text = list_any (same text) (pieces (is (byte "|")) form)

-- the form that a word of a row names
abbrev pub form_of : List ℕ → ValueForm
form_of name =
    if same name (codes "any") then Any else
    (if same name (codes "count") then Count else
    (if same name (codes "integer") then Integer else
    (if same name (codes "turn") then Turn else
    (if same name (codes "byte") then Byte else
    (if same name (codes "decimal") then Decimal else
    (if same name (codes "matrix") then Matrix else
    (if same name (codes "resolutions") then Resolutions else
    (if same name (codes "axis") then Axis else
    (if same name (codes "limits") then Limits else
    (if same name (codes "key") then Key else
    (if same name (codes "setting") then Setting else Choice)))))))))))

-- Whether a text is of a form, whose name is this word. A `!` before a key says that it is released at once; it may be alone.
abbrev pub is_of_form : ValueForm → (form text : List ℕ) → Bool
is_of_form Any form text = true
is_of_form Count form text = is_made_of is_digit text
is_of_form Integer form text = is_integer text
is_of_form Turn form text = is_turn text
is_of_form Byte form text = is_byte text
is_of_form Decimal form text = is_decimal text
is_of_form Matrix form text = is_matrix text
is_of_form Resolutions form text = is_resolutions text
is_of_form Axis form text = is_axis text
is_of_form Limits form text = is_limits text
is_of_form Key form text = if is_none (without (byte "!") text) then true else is_key (without (byte "!") text)
is_of_form Setting form text = is_made_of is_setting_byte text
is_of_form Choice form text = is_choice form text

-- ---- Names that lost words

-- whether a text is one of the words of a name, which have `_` between, but for the case of letters
abbrev pub is_word_of : (own text : List ℕ) → Bool
is_word_of own text = list_any (same_letters text) (pieces (is (byte "_")) own)

-- whether a text is a word of a row's name, or a code if all names that begin so are meant
abbrev pub is_known_word : (own text : List ℕ) → Bool
is_known_word own text = if is_word_of own text then true else (if is_family own then is_made_of is_lower_hex_digit text else false)

-- whether a name has no words but those of a row's name
abbrev pub has_lost_words : (own name : List ℕ) → Bool
has_lost_words own name = list_all (is_known_word own) (pieces (is (byte "_")) name)

-- the first row of a table with all words of this name
abbrev pub lost_row : (table name : List ℕ) → List ℕ
lost_row table name = first_row (λ row. has_lost_words (word row) name) table

-- ---- Properties

-- the row of a property
abbrev pub property_row : List ℕ → List ℕ
property_row name = row_for PROPERTIES.now name

-- the word for the form of a row's values
abbrev pub row_form : List ℕ → List ℕ
row_form row = word (after_word row)

-- whether the names of a form's properties end with a hexadecimal code
abbrev pub has_code : ValueForm → Bool
has_code Axis = true
has_code Key = true
has_code form = false

-- whether a row's name is that of all axes
abbrev pub is_axis_name : List ℕ → Bool
is_axis_name own = same own (codes "EVDEV_ABS_")

-- whether a code in hexadecimal is at most 3f, as those of all axes are (ABS_MAX of linux/input-event-codes.h)
abbrev pub is_axis_code : List ℕ → Bool
is_axis_code text =
    if nat_lt (length text) 2 then true else
    (if list_all (is (byte "0")) (take (length text - 2) text) then list_all (λ b. in_span b (48, 51)) (take 1 (drop (length text - 2) text))
    else false)

-- whether this is a code in lower case, and one of an axis if the row is for axes
abbrev pub is_code_of : (own code : List ℕ) → Bool
is_code_of own code =
    if is_made_of is_lower_hex_digit code then (if is_axis_name own then is_axis_code code else true) else false

-- whether what a name has more than its row is such a code
abbrev pub is_code : (row name : List ℕ) → Bool
is_code row name = is_code_of (word row) (drop (length (word row)) name)

-- an empty value takes a property away, and is none of a form
abbrev pub is_value : (row text : List ℕ) → Bool
is_value row text = if is_none text then true else is_of_form (form_of (row_form row)) (row_form row) text

-- what is said of a value that isn't of its form
abbrev pub value_misuse : ValueForm → Misuse
value_misuse Key = UnknownKey
value_misuse form = UnfitValue

-- what is said of a value that is of its form
abbrev pub odd_value : ValueForm → List ℕ → Option Misuse
odd_value Matrix text = if has_zero_row text then Some ZeroRow else (if is_singular text then Some SingularMatrix else None)
odd_value Resolutions text = if has_two_defaults text then Some TwoDefaults else None
odd_value form text = None

-- what is said of a property with this row
abbrev pub row_misuse : (row name text : List ℕ) → Option Misuse
row_misuse row name text =
    if (if has_code (form_of (row_form row)) then not (is_code row name) else false) then Some ScanCode
    else (if is_value row text then odd_value (form_of (row_form row)) text else Some (value_misuse (form_of (row_form row))))

-- what is said of a name that is in no row: it was read once, or it is nearly one that is read
abbrev pub name_misuse : List ℕ → Option Misuse
name_misuse name =
    if is_none (row_for OLD_PROPERTIES.now name) then (if is_none (near_row PROPERTIES.now name) then None else Some NearName)
    else Some OldName

-- what is said of a property with this name and this value
abbrev pub misuse : (name text : List ℕ) → Option Misuse
misuse name text = if is_none (property_row name) then name_misuse name else row_misuse (property_row name) name text

-- ---- What to do

-- a name that was likely meant
abbrev pub did_you_mean : List ℕ → List ℕ
did_you_mean name = codes "did you mean " ++ (name ++ byte "?" ∷ [])

-- what is a value of a form
abbrev pub form_hint : ValueForm → (form : List ℕ) → List ℕ
form_hint Any form = codes "write any text"
form_hint Count form = codes "write a number, as 10"
form_hint Integer form = codes "write a whole number, as 15 or -15"
form_hint Turn form = codes "write a number from 1 to 360, or from -360 to -1"
form_hint Byte form = codes "write a number from 0 to 255"
form_hint Decimal form = codes "write a decimal number, as 1.5"
form_hint Matrix form = codes "write three rows of three numbers, as 1, 0, 0; 0, 1, 0; 0, 0, 1"
form_hint Resolutions form = codes "write resolutions above 0 with spaces between, as 400@125 *800@125"
form_hint Axis form = codes "write up to five numbers with colons between, as 0:4095:40"
form_hint Limits form = codes "write two numbers up to 100 with a comma between, as 75,80; a _ is for none"
form_hint Key form = KEY_HINT.now
form_hint Setting form = codes "write letters, digits and + - . / @ _ alone, as us"
form_hint Choice form = codes "write one of these: " ++ form

-- a text without such a byte before it, and without all from the next one on
abbrev pub inside : ℕ → List ℕ → List ℕ
inside own text = before own (without own text)

-- a text without `key_` before it, in capitals or not
abbrev pub without_key : List ℕ → List ℕ
without_key text = if same_letters (take 4 text) (codes "key_") then drop 4 text else text

-- what is inside the quotes of a value, without a `!` and without `key_`
abbrev pub bare_key : List ℕ → List ℕ
bare_key text = without_key (inside (byte "'") (inside (byte "\"") (without (byte "!") text)))

-- What to do about a key that isn't known. It is one but for the case of letters, people call one or several so, or it is nearly one.
abbrev pub bare_hint : List ℕ → List ℕ
bare_hint name =
    if not (is_none (letters_row KEY_NAMES.now name)) then did_you_mean (word (letters_row KEY_NAMES.now name)) else
    (if not (is_none (letters_row KEY_WORDS.now name)) then did_you_mean (after_word (letters_row KEY_WORDS.now name)) else
    (if not (is_none (near_row KEY_NAMES.now name)) then did_you_mean (word (near_row KEY_NAMES.now name)) else form_hint Key []))

-- the same of a value
abbrev pub key_hint : List ℕ → List ℕ
key_hint text = bare_hint (bare_key text)

-- what is inside the quotes of a value
abbrev pub bare_value : List ℕ → List ℕ
bare_value text = inside (byte "'") (inside (byte "\"") text)

-- the first word of a form that is a text but for the case of letters; an empty text if none is
abbrev pub choice_in_letters : (form text : List ℕ) → List ℕ
choice_in_letters form text = unwrap_or (find (same_letters text) (pieces (is (byte "|")) form)) []

-- what a text means that people write for a value: `yes`, `mic`
abbrev pub word_meant : List ℕ → List ℕ
word_meant text = after_word (letters_row VALUE_WORDS.now text)

-- whether a text is a value of a row, and isn't empty
abbrev pub is_full_value : (row text : List ℕ) → Bool
is_full_value row text = if is_none text then false else is_value row text

-- The first of some texts that is a value of a row; an empty text if none is. It is the value that was likely meant: what is inside its
-- quotes, a word of its form in other letters, or what people call one.
abbrev pub value_meant : (row text : List ℕ) → List ℕ
value_meant row text =
    if is_full_value row (bare_value text) then bare_value text else
    (if is_full_value row (choice_in_letters (row_form row) (bare_value text)) then choice_in_letters (row_form row) (bare_value text) else
    (if is_full_value row (word_meant (bare_value text)) then word_meant (bare_value text) else []))

-- what to do about a value that isn't of the form of its row: it is written as it was likely meant, or its form is told
abbrev pub row_value_hint : (row name text : List ℕ) → List ℕ
row_value_hint row name text =
    if is_none (value_meant row text) then form_hint (form_of (row_form row)) (row_form row)
    else codes "write " ++ (name ++ (byte "=" ∷ value_meant row text))

-- the same of a property with this name
abbrev pub value_hint : (name text : List ℕ) → List ℕ
value_hint name text = row_value_hint (property_row name) name text

-- what is printed of a misuse
abbrev pub misuse_text : Misuse → List ℕ
misuse_text NearName = codes "a property that nothing is known to read"
misuse_text OldName = codes "a property that is no longer read"
misuse_text ScanCode = codes "a code that its property doesn't take"
misuse_text UnknownKey = codes "a key that isn't known"
misuse_text UnfitValue = codes "a value that its property doesn't take"
misuse_text ZeroRow = codes "a row of the matrix has zeros alone"
misuse_text SingularMatrix = codes "the determinant of the matrix is 0"
misuse_text TwoDefaults = codes "more than one resolution is the default"

-- the code that ends a name, after its row's own, without a `0x`
abbrev pub bare_code : (own name : List ℕ) → List ℕ
bare_code own name =
    let code = drop (length own) name in
    if same (take 2 code) (codes "0x") then drop 2 code else code

-- what to do about a code that no axis has: the program evtest shows codes in decimal
abbrev pub axis_hint : (own code : List ℕ) → List ℕ
axis_hint own code =
    if is_none (row_for AXIS_CODES.now code) then codes "write the code of an axis in hexadecimal, from 00 to 3f"
    else codes "evtest shows the code in decimal: write " ++ (own ++ after_word (row_for AXIS_CODES.now code))

-- what to do about a code in hexadecimal digits: it is written in lower case
abbrev pub hex_hint : (own code : List ℕ) → List ℕ
hex_hint own code =
    if (if is_axis_name own then not (is_axis_code code) else false) then axis_hint own code else codes "write " ++ (own ++ map lower code)

-- what to do about a code that its property doesn't take
abbrev pub bare_code_hint : (own code : List ℕ) → List ℕ
bare_code_hint own code =
    if is_made_of is_hex_digit code then hex_hint own code
    else codes "write the code in the digits 0 to 9 and a to f alone, without 0x"

-- what to do about a name that has such a code
abbrev pub code_hint : (own name : List ℕ) → List ℕ
code_hint own name = bare_code_hint own (bare_code own name)

-- what to do about it
abbrev pub misuse_hint : Misuse → (name text : List ℕ) → List ℕ
misuse_hint NearName name text = did_you_mean (word (near_row PROPERTIES.now name))
misuse_hint OldName name text = codes "this came for it: " ++ after_word (row_for OLD_PROPERTIES.now name)
misuse_hint ScanCode name text = code_hint (word (property_row name)) name
misuse_hint UnknownKey name text = key_hint text
misuse_hint UnfitValue name text = value_hint name text
misuse_hint ZeroRow name text = codes "write in each row where an axis points, as 1, 0, 0; 0, 1, 0; 0, 0, 1"
misuse_hint SingularMatrix name text = codes "write three axes that don't lie in one plane, as 1, 0, 0; 0, 1, 0; 0, 0, 1"
misuse_hint TwoDefaults name text = codes "put a * before one of them alone"
