-- What a rules file says, after `udev_rules_parse_file` of udev-rules.c (systemd 257): the lines that udev keeps, and what is found.
use Rattle.std.specs.Prelude.{List, [], ◌∷◌, ◌++◌, ℕ, map, if◌then◌else◌, Option, Some, None}
use Rattle.std.specs.List.{cons_option, fold}
use Rattle.hwdb_rulefiles.specs.RuleText.{rows, reading, long_row, Reading}
use Rattle.hwdb_rulefiles.specs.RuleLines.{RuleLine, Outcome, finding, read_line}
use Rattle.hwdb_rulefiles.specs.RuleJumps.{resolved}
use Rattle.hwdb_rulefiles.specs.declared.findings.Finding.{Finding}
use Rattle.hwdb_rulefiles.specs.declared.findings.FindingKind.{FindingKind}
use Rattle.hwdb_rulefiles.specs.declared.findings.FindingKind.TheVariants.{LongRow, OpenEnd}

pub record Parsed : Type 0 where
  pub lines : List RuleLine
  pub findings : List Finding

abbrev pub nothing : Parsed
nothing = record { lines = []; findings = [] }

abbrev pub found : Parsed → (line : ℕ) → FindingKind → Parsed
found p line kind = record p { findings = p.findings ++ (finding line 0 kind ∷ []) }

-- what a line comes to, after what came before
abbrev pub put : Parsed → Outcome → Parsed
put p o = record { lines = p.lines ++ cons_option o.line []; findings = p.findings ++ o.findings }

-- the lines that are left, and all findings
abbrev pub gathered : List Outcome → Parsed
gathered outcomes = fold put nothing outcomes

-- the file may end within a line that goes on
abbrev pub ended : Reading → Parsed → Parsed
ended r p = if r.held then found p r.first OpenEnd else p

abbrev pub parsed_by : Option ℕ → Reading → Parsed
parsed_by (Some number) r = found nothing number LongRow
parsed_by None r = ended r (gathered (resolved (map read_line r.lines)))

-- what a file says; one with a row that is too long says nothing
abbrev pub parsed : (file : List ℕ) → Parsed
parsed file = parsed_by (long_row 1 (rows file)) (reading file)
