-- Jumps, after `rule_resolve_goto` of udev-rules.c (systemd 257): a label counts if it comes after its GOTO.
use Rattle.std.specs.Prelude.{List, [], ◌∷◌, Bool, true, false, if◌then◌else◌, ℕ, get_or, Option, Some, None, is_some}
use Rattle.std.specs.List.{list_any}
use Rattle.hwdb_rulefiles.specs.RuleTokens.{is_word}
use Rattle.hwdb_rulefiles.specs.RuleLines.{RuleLine, Outcome, finding, any_acts}
use Rattle.hwdb_rulefiles.specs.declared.findings.FindingKind.TheVariants.{NoLabel}

abbrev pub line_label : Option RuleLine → Option (List ℕ)
line_label None = None
line_label (Some l) = l.label

abbrev pub line_goto : Option RuleLine → Option (List ℕ)
line_goto None = None
line_goto (Some l) = l.goto

-- the name of a line
abbrev pub label_of : Outcome → Option (List ℕ)
label_of o = line_label o.line

-- the name that it jumps to
abbrev pub goto_of : Outcome → Option (List ℕ)
goto_of o = line_goto o.line

-- whether one of the lines has a name
abbrev pub is_labelled : List ℕ → List Outcome → Bool
is_labelled name later = list_any (λ o. is_word (label_of o) name) later

abbrev pub reaches : Option (List ℕ) → (later : List Outcome) → Bool
reaches None later = true
reaches (Some name) later = is_labelled name later

-- whether a line jumps nowhere, or to one of the later lines
abbrev pub is_kept : Outcome → (later : List Outcome) → Bool
is_kept o later = reaches (goto_of o) later

-- a line without its jump: nothing is left of it if it does nothing else and has no name
abbrev pub left : RuleLine → Option RuleLine
left l =
    if any_acts l.tokens then Some (record l { goto = None })
    else (if is_some l.label then Some (record l { tokens = []; goto = None }) else None)

abbrev pub line_left : Option RuleLine → Option RuleLine
line_left None = None
line_left (Some l) = left l

abbrev pub without_jump : Outcome → Outcome
without_jump o = record { number = o.number; line = line_left o.line; findings = finding o.number 0 NoLabel ∷ o.findings }

abbrev pub marked : (keeps : Bool) → Outcome → Outcome
marked keeps o = if keeps then o else without_jump o

-- the lines, without jumps that have no label
unfoldable pub resolved : List Outcome → List Outcome
resolved [] = []
resolved (o ∷ later) = marked (is_kept o later) o ∷ resolved later

-- which lines keep their jump
unfoldable pub marks : List Outcome → List Bool
marks [] = []
marks (o ∷ later) = is_kept o later ∷ marks later

abbrev pub mark_at : List Bool → ℕ → Bool
mark_at marks at = get_or marks at true

-- the lines, by their marks
unfoldable pub all_marked : List Bool → List Outcome → List Outcome
all_marked ms [] = []
all_marked [] (o ∷ more) = o ∷ all_marked [] more
all_marked (m ∷ ms) (o ∷ more) = marked m o ∷ all_marked ms more
