-- Which attributes rules read of a device and of its parents: those that ATTR and ATTRS name, and `$attr{}` in a text. And those that builtins
-- read. Our choice: so many files are read, and no more.
use Rattle.std.specs.Prelude.{List, [], ◌∷◌, ◌++◌, Bool, true, if◌then◌else◌, ℕ, codes, flat_map}
use Rattle.hwdb_spec.specs.Assignment.{in_order, text_cmp}
use Rattle.hwdb_spec.specs.Lines.{is, pieces as parts}
use Rattle.hwdb_spec_commands.specs.declared.attributes.TheConstants.{ATTRIBUTES}
use Rattle.hwdb_rulefiles.specs.RuleTokens.{Token}
use Rattle.hwdb_rulefiles.specs.RuleLines.{RuleLine}
use Rattle.hwdb_rulefiles.specs.declared.tokens.TokenKind.{TokenKind}
use Rattle.hwdb_rulefiles.specs.declared.tokens.TokenKind.TheVariants as Kinds
use Rattle.hwdb_rulerun.specs.Asking.{runs}
use Rattle.hwdb_rulerun.specs.Conditions.{is_plain}
use Rattle.hwdb_ruleevents.specs.Effects.{is_env}
use Rattle.hwdb_ruleevents.specs.Pieces.{Piece, Byte, Stands, pieces}
use Rattle.hwdb_ruleevents.specs.Texts.{names_other}
use Rattle.hwdb_ruleevents.specs.declared.pieces.Variable.{Variable}
use Rattle.hwdb_ruleevents.specs.declared.pieces.Variable.TheVariants as Variables

-- the name in a condition's braces, if it is one as it stands
abbrev pub matched_name : List ℕ → List (List ℕ)
matched_name name = if is_plain name then name ∷ [] else []

-- the name that a condition reads, if it is one on attributes
abbrev pub condition_name : TokenKind → (attribute : List ℕ) → List (List ℕ)
condition_name Kinds.MatchAttr attribute = matched_name attribute
condition_name Kinds.ParentsAttr attribute = matched_name attribute
condition_name kind attribute = []

-- the name of a variable of a text, if it is an attribute of the device or of a parent
abbrev pub variable_name : Variable → (argument : List ℕ) → List (List ℕ)
variable_name Variables.Attr argument = if names_other argument then [] else argument ∷ []
variable_name variable argument = []

-- the name that a piece of a text reads
abbrev pub piece_name : Piece → List (List ℕ)
piece_name (Byte b) = []
piece_name (Stands variable argument) = variable_name variable argument

-- the names that a text reads
abbrev pub text_names : (value : List ℕ) → List (List ℕ)
text_names value = flat_map piece_name (pieces value)

-- whether a token's value is a text with variables that matters to lookups
abbrev pub has_text : TokenKind → Bool
has_text kind = if is_env kind then true else runs kind

-- the names that a token reads
abbrev pub token_names : Token → List (List ℕ)
token_names t = condition_name t.kind t.attribute ++ (if has_text t.kind then text_names t.value else [])

-- the names that a line reads
abbrev pub line_names : RuleLine → List (List ℕ)
line_names l = flat_map token_names l.tokens

-- the names that a file reads
abbrev pub file_names : List RuleLine → List (List ℕ)
file_names lines = flat_map line_names lines

-- what builtins read
abbrev pub builtin_names : List (List ℕ)
builtin_names = parts (is 10) ATTRIBUTES.now ++ (codes "bInterfaceClass" ∷ [])

-- the names that rules read, ascending, each once
abbrev pub names_read : List (List RuleLine) → List (List ℕ)
names_read files = in_order text_cmp (builtin_names ++ flat_map file_names files)
