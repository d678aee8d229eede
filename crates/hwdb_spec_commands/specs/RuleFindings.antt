-- What `check` finds in udev's rules files, which are told by their names. udev(7) has the ending `.rules`. What is found in a line is from
-- udev-rules.c (systemd 257), and that faults are told apart from remarks is our choice.
use Rattle.std.specs.Prelude.{Bool, true, ℕ, List, None, [], ◌∷◌, ◌-◌, codes, filter, flat_map, get_or, if◌then◌else◌, nat_eq, not}
use Rattle.std.specs.List.{ends_with, list_any}
use Rattle.hwdb_spec.specs.Folders.{same}
use Rattle.hwdb_rulefiles.specs.RuleFiles.{parsed}
use Rattle.hwdb_rulefiles.specs.RuleHints.{is_fault, kind_hint}
use Rattle.hwdb_rulefiles.specs.RuleSpots.{spot}
use Rattle.hwdb_rulefiles.specs.RuleText.{rows}
use Rattle.hwdb_rulefiles.specs.RuleTexts.{kind_name, kind_text}
use Rattle.hwdb_rulefiles.specs.declared.findings.Finding.{Finding as RuleFinding}
use Rattle.hwdb_rulefiles.specs.declared.findings.FindingKind.{FindingKind}
use Rattle.hwdb_rulefiles.specs.declared.spots.Spot.{Spot}
use Rattle.hwdb_spec_commands.specs.AllowedKinds.{file_findings, names_in}
use Rattle.hwdb_spec_commands.specs.Findings.{Finding}
use Rattle.hwdb_spec_commands.specs.declared.formats.Format.{Format}

-- whether a path is that of a rules file; it may be a part of one, as a name
abbrev pub is_rules : (path : List ℕ) → Bool
is_rules path = ends_with nat_eq path (codes ".rules")

-- whether one of the words of `--allow` names a kind
abbrev pub is_allowed : (allowed : List (List ℕ)) → FindingKind → Bool
is_allowed allowed kind = list_any (λ word. list_any (same (kind_name kind)) (names_in word)) allowed

-- a fault is told, and so is a remark of a kind that isn't allowed
abbrev pub is_told : (allowed : List (List ℕ)) → FindingKind → Bool
is_told allowed kind = if is_fault kind then true else not (is_allowed allowed kind)

-- the row with this number, as udev cuts a file into rows
abbrev pub row_text : (rows : List (List ℕ)) (number : ℕ) → List ℕ
row_text rows number = get_or rows (number - 1) []

-- what is found at a place of a file, in this row
abbrev pub found_at : (path source : List ℕ) → Spot → FindingKind → Finding
found_at path source s kind = record {
  path = path;
  line = s.line;
  place = s.column - 1;
  fault = is_fault kind;
  kind = kind_name kind;
  text = kind_text kind;
  hint = kind_hint kind;
  source = source;
  fix = None;
}

-- what is found in some rows
abbrev pub found_in : (path : List ℕ) (rows : List (List ℕ)) → RuleFinding → Finding
found_in path rows f = found_at path (row_text rows (spot rows f).line) (spot rows f) f.kind

-- one such finding
unfoldable pub one_found : (path : List ℕ) (rows : List (List ℕ)) → RuleFinding → List Finding
one_found path rows f = found_in path rows f ∷ []

-- the findings of a rules file, by line
abbrev pub rule_findings : (allowed : List (List ℕ)) (path file : List ℕ) → List Finding
rule_findings allowed path file = flat_map (one_found path (rows file)) (filter (λ f. is_told allowed f.kind) (parsed file).findings)

-- the findings of a file, which its name says to be a rules file or a text file
abbrev pub findings_of : Format → (allowed : List (List ℕ)) (path file : List ℕ) → List Finding
findings_of format allowed path file = if is_rules path then rule_findings allowed path file else file_findings format allowed path file
