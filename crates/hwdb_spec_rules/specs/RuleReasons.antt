-- What is said of why a line asks, may ask, or doesn't. Our choice; keys and operators are as rules write them (udev(7)).
use Rattle.std.specs.Prelude.{List, [], ◌∷◌, ◌++◌, Bool, true, false, if◌then◌else◌, ℕ, ◌==◌, codes, drop, length, map, nat_lt, take, Option, Some, None}
use Rattle.hwdb_spec.specs.Lines.{byte, is_none}
use Rattle.hwdb_spec.specs.Visible.{shown_name}
use Rattle.hwdb_rulefiles.specs.RuleTokens.{Token}
use Rattle.hwdb_rulefiles.specs.declared.pairs.Operator.{Operator}
use Rattle.hwdb_rulefiles.specs.declared.pairs.Operator.TheVariants.{NoMatch}
use Rattle.hwdb_rulefiles.specs.declared.tokens.TokenKind.{TokenKind}
use Rattle.hwdb_rulefiles.specs.declared.tokens.TokenKind.TheVariants as Kinds
use Rattle.hwdb_rulerun.specs.Conditions.{is_parents}
use Rattle.hwdb_ruleevents.specs.Events.{Turn}
use Rattle.hwdb_ruleevents.specs.Reasons.{By, Cause, Jumped, Reason}

-- ---- tokens

-- whether a token imports properties
abbrev pub imports : TokenKind → Bool
imports Kinds.ImportFile = true
imports Kinds.ImportProgram = true
imports Kinds.ImportBuiltin = true
imports Kinds.ImportDb = true
imports Kinds.ImportCmdline = true
imports Kinds.ImportParent = true
imports kind = false

-- the key of a condition about a device or one of its parents
abbrev pub parents_key : TokenKind → List ℕ
parents_key Kinds.ParentsKernel = codes "KERNELS"
parents_key Kinds.ParentsSubsystem = codes "SUBSYSTEMS"
parents_key Kinds.ParentsDriver = codes "DRIVERS"
parents_key Kinds.ParentsAttr = codes "ATTRS"
parents_key kind = codes "TAGS"

-- the key of a condition about what is run or set
abbrev pub event_key : TokenKind → List ℕ
event_key Kinds.MatchAction = codes "ACTION"
event_key Kinds.MatchDevlink = codes "SYMLINK"
event_key Kinds.MatchName = codes "NAME"
event_key Kinds.MatchEnv = codes "ENV"
event_key Kinds.MatchConst = codes "CONST"
event_key Kinds.MatchTag = codes "TAG"
event_key Kinds.MatchSysctl = codes "SYSCTL"
event_key Kinds.MatchTest = codes "TEST"
event_key Kinds.MatchProgram = codes "PROGRAM"
event_key Kinds.MatchResult = codes "RESULT"
event_key kind = codes "IMPORT"

-- the key of a token that decides over a line
abbrev pub key_text : TokenKind → List ℕ
key_text Kinds.MatchKernel = codes "KERNEL"
key_text Kinds.MatchSubsystem = codes "SUBSYSTEM"
key_text Kinds.MatchDriver = codes "DRIVER"
key_text Kinds.MatchAttr = codes "ATTR"
key_text Kinds.MatchDevpath = codes "DEVPATH"
key_text kind = if is_parents kind then parents_key kind else event_key kind

-- what is in braces
abbrev pub braces_text : List ℕ → List ℕ
braces_text text = if is_none text then [] else byte "{" ∷ (shown_name text ++ byte "}" ∷ [])

-- an operator; a command that has to succeed is written with =
abbrev pub operator_text : TokenKind → Operator → List ℕ
operator_text kind NoMatch = codes "!="
operator_text kind o = if imports kind then codes "=" else codes "=="

-- a value; an i before it if capitals don't count
abbrev pub quoted_text : (folds : Bool) → (value : List ℕ) → List ℕ
quoted_text folds value = (if folds then codes "i" else []) ++ (byte "\"" ∷ (shown_name value ++ byte "\"" ∷ []))

-- a token
abbrev pub token_text : Token → List ℕ
token_text t = key_text t.kind ++ (braces_text t.attribute ++ (operator_text t.kind t.operator ++ quoted_text t.folds t.value))

-- a jump
abbrev pub jump_text : (label : List ℕ) → List ℕ
jump_text label = codes "GOTO=" ++ quoted_text false label

-- texts after a first one, with commas
abbrev pub more_texts : List (List ℕ) → List ℕ
more_texts [] = []
more_texts (t ∷ more) = codes ", " ++ (t ++ more_texts more)

-- texts with commas between them
abbrev pub listed : List (List ℕ) → List ℕ
listed [] = []
listed (t ∷ more) = t ++ more_texts more

-- jumps, the first three of more
abbrev pub jumps_text : (labels : List (List ℕ)) → List ℕ
jumps_text labels = if nat_lt 3 (length labels) then listed (map jump_text (take 3 labels)) ++ codes ", .." else listed (map jump_text labels)

-- ---- causes

-- why it isn't known whether a line asks
abbrev pub doubt_text : Cause → List ℕ
doubt_text (Jumped labels) = codes "perhaps passed over by " ++ jumps_text labels
doubt_text (By []) = codes "what is run before it isn't known"
doubt_text (By (t ∷ more)) = listed (map token_text (t ∷ more)) ++ codes " isn't known"

-- whether conditions are about parents
abbrev pub is_group : List Token → Bool
is_group [] = false
is_group (t ∷ more) = is_parents t.kind

-- why a line doesn't ask
abbrev pub failed_text : Cause → List ℕ
failed_text (Jumped labels) = codes "passed over by " ++ jumps_text labels
failed_text (By tokens) =
    if is_group tokens then codes "neither the device nor a parent has " ++ listed (map token_text tokens)
    else listed (map token_text tokens) ++ codes " fails"

-- what decides over a line
abbrev pub cause_text : (asks : Option Bool) → Cause → List ℕ
cause_text None c = doubt_text c
cause_text (Some true) c = []
cause_text (Some false) c = failed_text c

-- the turns are of one line
abbrev pub same_turn : Turn → Turn → Bool
same_turn n m = if n.file == m.file then n.line == m.line else false

-- why the line of a turn may ask
abbrev pub doubt_at : List Reason → (at : Turn) → List ℕ
doubt_at [] n = doubt_text (By [])
doubt_at (r ∷ more) n = if same_turn n r.at then doubt_text r.cause else doubt_at more n

-- ---- of two actions

-- a line that asks comes before one that may ask
abbrev pub rank : (asks : Option Bool) → ℕ
rank (Some true) = 2
rank None = 1
rank (Some false) = 0

-- of what is told of a line at two actions, that one at which it rather asks
abbrev pub rather : (one other : Reason) → Reason
rather one other = if nat_lt (rank one.asks) (rank other.asks) then other else one

-- the same, if anything is told of it at the other action
abbrev pub rather_first : (one : Reason) (others : List Reason) → Reason
rather_first one [] = one
rather_first one (other ∷ others) = rather one other

-- the same of all lines, which are told in one order
abbrev pub rather_all : (ones others : List Reason) → List Reason
rather_all [] others = []
rather_all (one ∷ ones) others = rather_first one others ∷ rather_all ones (drop 1 others)
