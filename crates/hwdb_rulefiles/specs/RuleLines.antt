-- What a line says, after `rule_add_line` of udev-rules.c (systemd 257).
use Rattle.std.specs.Prelude.{List, [], ◌∷◌, ◌++◌, Bool, true, false, if◌then◌else◌, ℕ, zero, suc, ◌==◌, ◌-◌, drop, length, Option, Some, None, is_some}
use Rattle.std.specs.List.{prefix_len, list_any}
use Rattle.hwdb_spec.specs.Lines.{byte, is_none}
use Rattle.hwdb_rulefiles.specs.RuleText.{is_white, Whole}
use Rattle.hwdb_rulefiles.specs.RulePairs.{Part, Broken, Read, pair_of}
use Rattle.hwdb_rulefiles.specs.RuleTokens
use Rattle.hwdb_rulefiles.specs.RuleTokens.{Token, Verdict, judge}
use Rattle.hwdb_rulefiles.specs.RuleOrder.{in_order}
use Rattle.hwdb_rulefiles.specs.declared.findings.Finding.{Finding}
use Rattle.hwdb_rulefiles.specs.declared.findings.FindingKind.{FindingKind}
use Rattle.hwdb_rulefiles.specs.declared.findings.FindingKind.TheVariants as Found
use Rattle.hwdb_rulefiles.specs.declared.tokens.TokenKind.{TokenKind}
use Rattle.hwdb_rulefiles.specs.declared.tokens.TokenKind.TheVariants as Kinds

-- a line of rules: the number of its first row, its tokens in udev's order, its name, and the name of the line that it jumps to
pub record RuleLine : Type 0 where
  pub number : ℕ
  pub tokens : List Token
  pub label : Option (List ℕ)
  pub goto : Option (List ℕ)

-- what a line of the file comes to: a line of rules, if it isn't left out, and what is found
pub record Outcome : Type 0 where
  pub number : ℕ
  pub line : Option RuleLine
  pub findings : List Finding

-- what was read of a line
pub record Taking : Type 0 where
  pub tokens : List Token
  pub label : Option (List ℕ)
  pub goto : Option (List ℕ)
  pub refused : Bool
  pub findings : List Finding

abbrev pub nothing : Taking
nothing = record { tokens = []; label = None; goto = None; refused = false; findings = [] }

-- blanks and commas
abbrev pub is_separator : ℕ → Bool
is_separator b = if is_white b then true else b == byte ","

abbrev pub after_separators : List ℕ → List ℕ
after_separators text = drop (prefix_len is_separator text) text

abbrev pub finding : (line place : ℕ) → FindingKind → Finding
finding line place kind = record { line = line; place = place; kind = kind }

abbrev pub found : Taking → (line place : ℕ) → FindingKind → Taking
found t line place kind = record t { findings = t.findings ++ (finding line place kind ∷ []) }

abbrev pub refused : Taking → (line place : ℕ) → FindingKind → Taking
refused t line place kind = record t { refused = true; findings = t.findings ++ (finding line place kind ∷ []) }

abbrev pub added : Taking → Token → Taking
added t token = record t { tokens = t.tokens ++ (token ∷ []) }

-- the last name of a line counts
abbrev pub named : Taking → (line place : ℕ) → List ℕ → Taking
named t line place name = if is_some t.label then record (found t line place Found.SecondLabel) { label = Some name } else record t { label = Some name }

-- the first jump of a line counts
abbrev pub jumping : Taking → (line place : ℕ) → List ℕ → Taking
jumping t line place name = if is_some t.goto then found t line place Found.SecondGoto else record t { goto = Some name }

-- a pair is read
abbrev pub took : Taking → (line place : ℕ) → Verdict → Taking
took t line place (RuleTokens.Refused kind) = refused t line place kind
took t line place (RuleTokens.Ignored kind) = found t line place kind
took t line place (RuleTokens.Taken token) = added t token
took t line place (RuleTokens.TakenAsSet token) = found (added t token) line place Found.TakenAsSet
took t line place (RuleTokens.Label name) = named t line place name
took t line place (RuleTokens.Goto name) = jumping t line place name

-- two pairs have nothing between them; udev reads both
abbrev pub separated : Taking → (line place : ℕ) → (is_joined : Bool) → Taking
separated t line place is_joined = if place == 0 then t else (if is_joined then found t line place Found.NoSeparator else t)

-- a line that is left out has no more to read
abbrev pub more_of : Taking → List ℕ → Taking × Option (List ℕ)
more_of t rest = (t, if t.refused then None else Some rest)

abbrev pub part_step : Taking → (line place : ℕ) → Part → Taking × Option (List ℕ)
part_step t line place (Broken kind) = (refused t line place kind, None)
part_step t line place (Read pair rest) = more_of (took t line place (judge pair)) rest

abbrev pub pair_step : Taking → (line place : ℕ) → (at rest : List ℕ) → Taking × Option (List ℕ)
pair_step t line place at rest = part_step (separated t line place (length at == length rest)) line place (pair_of at)

-- what is after the next pair of `text`, of which `rest` is still to be read
abbrev pub step : Taking → (line : ℕ) → (text rest : List ℕ) → Taking × Option (List ℕ)
step t line text rest =
    if is_none (after_separators rest) then (t, None)
    else pair_step t line (length text - length (after_separators rest)) (after_separators rest) rest

abbrev pub going : Taking × Option (List ℕ) → (Taking → List ℕ → Taking) → Taking
going (t, None) after = t
going (t, Some rest) after = after t rest

-- the next pairs are read, `most` at most
unfoldable pub taking_most : (most : ℕ) → Taking → (line : ℕ) → (text rest : List ℕ) → Taking
taking_most zero t line text rest = t
taking_most (suc most) t line text rest = going (step t line text rest) (λ u more. taking_most most u line text more)

-- what is read of a line: it has no more pairs than bytes
abbrev pub read_pairs : (line : ℕ) → (text : List ℕ) → Taking
read_pairs line text = taking_most (length text) nothing line text text

-- whether a token of this type sets something or runs something
abbrev pub acts : TokenKind → Bool
acts Kinds.MatchAction = false
acts Kinds.MatchDevpath = false
acts Kinds.MatchKernel = false
acts Kinds.MatchDevlink = false
acts Kinds.MatchName = false
acts Kinds.MatchEnv = false
acts Kinds.MatchConst = false
acts Kinds.MatchTag = false
acts Kinds.MatchSubsystem = false
acts Kinds.MatchDriver = false
acts Kinds.MatchAttr = false
acts Kinds.MatchSysctl = false
acts Kinds.ParentsKernel = false
acts Kinds.ParentsSubsystem = false
acts Kinds.ParentsDriver = false
acts Kinds.ParentsAttr = false
acts Kinds.ParentsTag = false
acts Kinds.MatchTest = false
acts Kinds.MatchResult = false
acts kind = true

abbrev pub any_acts : List Token → Bool
any_acts tokens = list_any (λ t. acts t.kind) tokens

-- a line that names nothing, jumps nowhere and does nothing
abbrev pub is_idle : Taking → Bool
is_idle t = if is_some t.label then false else (if is_some t.goto then false else (if any_acts t.tokens then false else true))

-- what a line comes to of which all was read; what is found comes by its place
abbrev pub outcome_for : (number : ℕ) → Taking → Outcome
outcome_for number t =
    if t.refused then record { number = number; line = None; findings = t.findings }
    else (if is_idle t then record { number = number; line = None; findings = finding number 0 Found.NoEffect ∷ t.findings }
    else record { number = number; line = Some (record { number = number; tokens = in_order t.tokens; label = t.label; goto = t.goto }); findings = t.findings })

-- what a line of the file comes to
abbrev pub read_line : Whole → Outcome
read_line w =
    if w.long then record { number = w.number; line = None; findings = finding w.number 0 Found.LongLine ∷ [] } else outcome_for w.number (read_pairs w.number w.text)
