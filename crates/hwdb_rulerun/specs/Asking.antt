-- Which lookups a line asks, after `udev_rule_apply_line_to_event`, `udev_builtin_lookup`, `builtin_hwdb` and `builtin_net_id` (systemd 257): its
-- commands of these builtins, as they are written.
use Rattle.std.specs.Prelude.{List, [], ◌∷◌, ◌++◌, Bool, true, false, if◌then◌else◌, ℕ, nat_eq, take, codes, Option, Some, None, ◌≡◌, ◌⊎◌}
use Rattle.std.specs.List.{starts_with}
use Rattle.hwdb_spec.specs.Lines.{is_none}
use Rattle.hwdb_rulefiles.specs.RuleText.{unindented}
use Rattle.hwdb_rulefiles.specs.RuleTokens.{Token, word_len}
use Rattle.hwdb_rulefiles.specs.declared.tokens.TokenKind.{TokenKind}
use Rattle.hwdb_rulefiles.specs.declared.tokens.TokenKind.TheVariants as Kinds
use Rattle.hwdb_rulerun.specs.Conditions.{line_holds}
use Rattle.hwdb_rulerun.specs.Sights.{Sight, World}
use Rattle.hwdb_rulerun.specs.Telling.{line_told}

-- what a line runs after its conditions: each is passed or not, as a condition is
abbrev pub runs : TokenKind → Bool
runs Kinds.MatchProgram = true
runs Kinds.ImportFile = true
runs Kinds.ImportProgram = true
runs Kinds.ImportBuiltin = true
runs Kinds.ImportDb = true
runs Kinds.ImportCmdline = true
runs Kinds.ImportParent = true
runs Kinds.MatchResult = true
runs kind = false

abbrev pub is_import : TokenKind → Bool
is_import Kinds.ImportBuiltin = true
is_import kind = false

-- the first word of a command
abbrev pub first_word : List ℕ → List ℕ
first_word command = take (word_len (unindented command)) (unindented command)

-- a command of the builtin hwdb, whose name may be shortened
abbrev pub is_hwdb : List ℕ → Bool
is_hwdb command = if is_none (first_word command) then false else starts_with nat_eq (codes "hwdb") (first_word command)

-- one of the builtin net_id; a shorter name is net_driver's
abbrev pub is_net_id : List ℕ → Bool
is_net_id command = if starts_with nat_eq (first_word command) (codes "net_i") then starts_with nat_eq (codes "net_id") (first_word command) else false

-- Whether a token asks the hardware database. The builtin net_id asks it for the owner of a network address (`ieee_oui`).
abbrev pub is_lookup : Token → Bool
is_lookup t = if is_import t.kind then (if is_hwdb t.value then true else is_net_id t.value) else false

abbrev pub lookup_in : Token → List Token
lookup_in t = if is_lookup t then t ∷ [] else []

-- whether a line goes on after a token
abbrev pub goes_on : World → Token → Bool
goes_on w t = if runs t.kind then w.passes t 0 else true

-- the lookups among the tokens of a line whose conditions hold, up to what fails
abbrev pub asked_runs : World → List Token → List Token
asked_runs w [] = []
asked_runs w (t ∷ more) = lookup_in t ++ (if goes_on w t then asked_runs w more else [])

-- the lookups that a line asks
abbrev pub asked : World → List Token → List Token
asked w tokens = if line_holds w tokens then asked_runs w tokens else []

-- a lookup that is told, and whether it is certain
pub record Told : Type 0 where
  pub token : Token
  pub certain : Bool

abbrev pub told_in : (certain : Bool) → Token → List Told
told_in certain t = if is_lookup t then record { token = t; certain = certain } ∷ [] else []

-- after something was run, nothing is certain
abbrev pub after : (certain : Bool) → Token → Bool
after certain t = if runs t.kind then false else certain

abbrev pub told_runs : (certain : Bool) → List Token → List Told
told_runs certain [] = []
told_runs certain (t ∷ more) = told_in certain t ++ told_runs (after certain t) more

abbrev pub told_by : Option Bool → List Token → List Told
told_by None tokens = told_runs false tokens
told_by (Some true) tokens = told_runs true tokens
told_by (Some false) tokens = []

-- what is told of the lookups of a line
abbrev pub told : Sight → List Token → List Told
told s tokens = told_by (line_told s tokens) tokens

-- What is told covers what is asked: in their order, each that is asked is told, and each that is certain is asked.
abbrev pub Covers : List Told → List Token → Type 0
Covers [] [] = Unit {0}
Covers [] (x ∷ xs) = ⊥
Covers (t ∷ ts) [] = (t.certain ≡ false) × Covers ts []
Covers (t ∷ ts) (x ∷ xs) = ((t.token ≡ x) × Covers ts xs) ⊎ ((t.certain ≡ false) × Covers ts (x ∷ xs))
