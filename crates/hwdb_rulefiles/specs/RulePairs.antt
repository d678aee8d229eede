-- The pairs of a line, after `parse_line`, `parse_operator` and `udev_rule_parse_value` of udev-rules.c (systemd 257).
use Rattle.std.specs.Prelude.{List, [], ◌∷◌, Bool, true, false, if◌then◌else◌, ℕ, ◌==◌, ◌+◌, drop, take, length, codes, nat_eq, Option, Some, None}
use Rattle.std.specs.List.{position_or_len, before_first, after_first, starts_with}
use Rattle.hwdb_spec.specs.Lines.{byte, begins_with, is_none}
use Rattle.hwdb_rulefiles.specs.RuleText.{is_white, unindented}
use Rattle.hwdb_rulefiles.specs.Escapes.{unescaped}
use Rattle.hwdb_rulefiles.specs.declared.findings.FindingKind.{FindingKind}
use Rattle.hwdb_rulefiles.specs.declared.findings.FindingKind.TheVariants.{NoOperator, NoBrace, NoQuote, NoEnd, WrongEscape}
use Rattle.hwdb_rulefiles.specs.declared.pairs.Operator.{Operator}
use Rattle.hwdb_rulefiles.specs.declared.pairs.Operator.TheVariants.{Match, NoMatch, Add, Remove, Assign, AssignFinal}

-- a pair: its key, what is in braces after it, the operator, whether capitals count not, and the value
pub record Pair : Type 0 where
  pub key : List ℕ
  pub attribute : Option (List ℕ)
  pub operator : Operator
  pub folds : Bool
  pub value : List ℕ

-- what a text begins with: no pair, or one and what comes after it
pub data Part : Type 0 where
  Broken : FindingKind → Part
  Read : Pair → (rest : List ℕ) → Part

-- +, -, ! or :
abbrev pub is_sign : ℕ → Bool
is_sign b = if b == byte "+" then true else (if b == byte "-" then true else (if b == byte "!" then true else b == byte ":"))

-- whether a key ends at a byte: a blank, = or {, or a sign before =
abbrev pub ends_key : ℕ → (rest : List ℕ) → Bool
ends_key b rest =
    if is_white b then true else (if b == byte "=" then true else (if b == byte "{" then true else (if is_sign b then begins_with (byte "=") rest else false)))

-- how long a key is
abbrev pub key_len : List ℕ → ℕ
key_len [] = 0
key_len (b ∷ rest) = if ends_key b rest then 0 else 1 + key_len rest

abbrev pub is_brace : ℕ → Bool
is_brace b = b == byte "}"

-- an operator, and what comes after it
pub record Operated : Type 0 where
  pub operator : Operator
  pub rest : List ℕ

abbrev pub with_operator : Operator → List ℕ → Option Operated
with_operator o rest = Some (record { operator = o; rest = rest })

-- the operator that a text begins with
abbrev pub operator_of : List ℕ → Option Operated
operator_of text =
    if starts_with nat_eq text (codes "==") then with_operator Match (drop 2 text)
    else (if starts_with nat_eq text (codes "!=") then with_operator NoMatch (drop 2 text)
    else (if starts_with nat_eq text (codes "+=") then with_operator Add (drop 2 text)
    else (if starts_with nat_eq text (codes "-=") then with_operator Remove (drop 2 text)
    else (if starts_with nat_eq text (codes "=") then with_operator Assign (drop 1 text)
    else (if starts_with nat_eq text (codes ":=") then with_operator AssignFinal (drop 2 text)
    else None)))))

-- what comes before the quote of a value, and what comes after the quote
pub record Marked : Type 0 where
  pub escaped : Bool
  pub folds : Bool
  pub rest : List ℕ

abbrev pub with_marks : (escaped folds : Bool) → List ℕ → Option Marked
with_marks escaped folds rest = Some (record { escaped = escaped; folds = folds; rest = rest })

-- `e` and `i` before the quote, each once at most
abbrev pub marks_of : List ℕ → Option Marked
marks_of text =
    if starts_with nat_eq text (codes "\"") then with_marks false false (drop 1 text)
    else (if starts_with nat_eq text (codes "e\"") then with_marks true false (drop 2 text)
    else (if starts_with nat_eq text (codes "i\"") then with_marks false true (drop 2 text)
    else (if starts_with nat_eq text (codes "ei\"") then with_marks true true (drop 3 text)
    else (if starts_with nat_eq text (codes "ie\"") then with_marks true true (drop 3 text)
    else None))))

-- Whether the byte after this one is part of the value, whatever it is: after each backslash of a value with `e`, else
-- after a backslash before a quote.
abbrev pub skips : (escaped : Bool) → ℕ → (rest : List ℕ) → Bool
skips escaped b rest = if b == byte "\\" then (if escaped then true else begins_with (byte "\"") rest) else false

-- whether a value ends at a byte
abbrev pub ends_value : (skip : Bool) → ℕ → Bool
ends_value skip b = if skip then false else b == byte "\""

-- whether the byte after this one is skipped
abbrev pub skips_next : (escaped skip : Bool) → ℕ → (rest : List ℕ) → Bool
skips_next escaped skip b rest = if skip then false else skips escaped b rest

-- how long a value is, up to its quote
abbrev pub value_len : (escaped skip : Bool) → List ℕ → ℕ
value_len escaped skip [] = 0
value_len escaped skip (b ∷ rest) =
    if ends_value skip b then 0 else 1 + value_len escaped (skips_next escaped skip b rest) rest

-- a value without the backslashes before its quotes
abbrev pub unquoted : List ℕ → List ℕ
unquoted [] = []
unquoted (b ∷ rest) = if skips false b rest then unquoted rest else b ∷ unquoted rest

-- what the bytes between the quotes say
abbrev pub value_of : (escaped : Bool) → List ℕ → Option (List ℕ)
value_of escaped text = if escaped then unescaped text else Some (unquoted text)

-- a pair with its value, before `rest`
abbrev pub with_value : (key : List ℕ) → (attribute : Option (List ℕ)) → Operator → (folds : Bool) → Option (List ℕ) → (rest : List ℕ) → Part
with_value key attribute o folds None rest = Broken WrongEscape
with_value key attribute o folds (Some value) rest = Read (record { key = key; attribute = attribute; operator = o; folds = folds; value = value }) rest

-- a pair whose value begins with `text`, after its quote
abbrev pub quoted : (key : List ℕ) → (attribute : Option (List ℕ)) → Operator → (escaped folds : Bool) → (text : List ℕ) → Part
quoted key attribute o escaped folds text =
    if value_len escaped false text == length text then Broken NoEnd
    else with_value key attribute o folds (value_of escaped (take (value_len escaped false text) text)) (drop (value_len escaped false text + 1) text)

abbrev pub after_marks : (key : List ℕ) → (attribute : Option (List ℕ)) → Operator → Option Marked → Part
after_marks key attribute o None = Broken NoQuote
after_marks key attribute o (Some m) = quoted key attribute o m.escaped m.folds m.rest

abbrev pub after_operator : (key : List ℕ) → (attribute : Option (List ℕ)) → Option Operated → Part
after_operator key attribute None = Broken NoOperator
after_operator key attribute (Some o) = after_marks key attribute o.operator (marks_of (unindented o.rest))

-- a pair whose operator and value come next
abbrev pub valued : (key : List ℕ) → (attribute : Option (List ℕ)) → (text : List ℕ) → Part
valued key attribute text = after_operator key attribute (operator_of (unindented text))

-- a pair with an attribute, whose text begins after the brace
abbrev pub braced : (key text : List ℕ) → Part
braced key text =
    if position_or_len is_brace text == length text then Broken NoBrace
    else valued key (Some (before_first is_brace text)) (after_first is_brace text)

-- a pair of which the key was read
abbrev pub after_key : (key text : List ℕ) → Part
after_key key text =
    if is_none text then Broken NoOperator else (if begins_with (byte "{") text then braced key (drop 1 text) else valued key None text)

-- the pair that a text begins with
abbrev pub pair_of : List ℕ → Part
pair_of text = after_key (take (key_len text) text) (drop (key_len text) text)
