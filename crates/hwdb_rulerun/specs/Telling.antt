-- What is told of conditions from what is known: yes, no, or nothing. It follows `Conditions`, step by step.
use Rattle.std.specs.Prelude.{List, [], ◌∷◌, Bool, true, false, if◌then◌else◌, ℕ, nat_lt, length, Option, Some, None}
use Rattle.hwdb_rulefiles.specs.RuleTokens.{Token}
use Rattle.hwdb_rulefiles.specs.declared.pairs.Operator.{Operator}
use Rattle.hwdb_rulefiles.specs.declared.tokens.TokenKind.{TokenKind}
use Rattle.hwdb_rulefiles.specs.declared.tokens.TokenKind.TheVariants as Kinds
use Rattle.hwdb_rulerun.specs.Matching
use Rattle.hwdb_rulerun.specs.Conditions.{attribute_size, by_operator, has_parents, is_any_subsystem, is_own, is_parents, is_plain, trimmed}
use Rattle.hwdb_rulerun.specs.Sights.{Known, Unknown, Missing, Text, Seen, Sight, attribute_of, property_of}

-- both, if a no decides; the second one isn't asked for more
abbrev pub and_then : Option Bool → Option Bool → Option Bool
and_then (Some true) b = b
and_then (Some false) b = Some false
and_then None (Some false) = Some false
and_then None (Some true) = None
and_then None None = None

-- one of both, if a yes decides
abbrev pub or_then : Option Bool → Option Bool → Option Bool
or_then (Some true) b = Some true
or_then (Some false) b = b
or_then None (Some true) = Some true
or_then None (Some false) = None
or_then None None = None

abbrev pub by_operator_told : Operator → Option Bool → Option Bool
by_operator_told o None = None
by_operator_told o (Some b) = Some (by_operator o b)

abbrev pub compared : Token → (text : List ℕ) → Option Bool
compared t text = by_operator_told t.operator (Matching.told t.folds t.value text)

abbrev pub known_compared : Token → Known → Option Bool
known_compared t Unknown = None
known_compared t Missing = compared t []
known_compared t (Text text) = compared t text

abbrev pub subsystem_compared : Token → (text : List ℕ) → Option Bool
subsystem_compared t text = if is_any_subsystem t.value then Some (by_operator t.operator (is_any_subsystem text)) else compared t text

abbrev pub known_subsystem : Token → Known → Option Bool
known_subsystem t Unknown = None
known_subsystem t Missing = subsystem_compared t []
known_subsystem t (Text text) = subsystem_compared t text

abbrev pub attribute_compared : Token → Known → Option Bool
attribute_compared t Unknown = None
attribute_compared t Missing = Some false
attribute_compared t (Text text) = if nat_lt attribute_size (length text) then None else compared t (trimmed t.value text)

abbrev pub attribute_told : Token → Seen → Option Bool
attribute_told t s = if is_plain t.attribute then attribute_compared t (attribute_of s t.attribute) else None

abbrev pub told_of : Token → Seen → TokenKind → Option Bool
told_of t s Kinds.MatchKernel = compared t s.name
told_of t s Kinds.ParentsKernel = compared t s.name
told_of t s Kinds.MatchSubsystem = known_subsystem t s.subsystem
told_of t s Kinds.ParentsSubsystem = known_compared t s.subsystem
told_of t s Kinds.MatchDriver = known_compared t s.driver
told_of t s Kinds.ParentsDriver = known_compared t s.driver
told_of t s Kinds.MatchAttr = attribute_told t s
told_of t s Kinds.ParentsAttr = attribute_told t s
told_of t s kind = None

abbrev pub told : Sight → Token → TokenKind → Option Bool
told s t Kinds.MatchAction = compared t s.action
told s t Kinds.MatchDevpath = compared t s.path
told s t Kinds.MatchEnv = known_compared t (property_of s t.attribute)
told s t kind = told_of t s.own kind

-- a condition that isn't about parents, and what is told of the others
abbrev pub own_and : Sight → Token → Option Bool → Option Bool
own_and s t others = if is_own t.kind then and_then (told s t t.kind) others else others

abbrev pub all_own : Sight → List Token → Option Bool
all_own s [] = Some true
all_own s (t ∷ more) = own_and s t (all_own s more)

-- a condition about parents, and what is told of the others
abbrev pub parent_and : Seen → Token → Option Bool → Option Bool
parent_and s t others = if is_parents t.kind then and_then (told_of t s t.kind) others else others

abbrev pub all_of : Seen → List Token → Option Bool
all_of s [] = Some true
all_of s (t ∷ more) = parent_and s t (all_of s more)

-- what is told of some devices, and of others before them
abbrev pub some_from : (before : Option Bool) → List Token → List Seen → Option Bool
some_from before tokens [] = before
some_from before tokens (s ∷ more) = some_from (or_then before (all_of s tokens)) tokens more

abbrev pub some_parent : Sight → List Token → Option Bool
some_parent s tokens = some_from (all_of s.own tokens) tokens s.parents

-- what is told of a line's conditions
abbrev pub line_told : Sight → List Token → Option Bool
line_told s tokens = and_then (all_own s tokens) (if has_parents tokens then some_parent s tokens else Some true)
