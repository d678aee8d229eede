-- What the laws say of rules files: which kinds `--allow` takes, and worked rows. What udev does with each line is from udev-rules.c, and from
-- `udevadm verify` (systemd 257).
use Rattle.std.specs.Prelude.{◌∷◌, ◌≡◌, List, [], codes, false, flat_map, map, not, true, ℕ}
use Rattle.std.specs.List.{list_any}
use Rattle.hwdb_spec.specs.Folders.{same}
use Rattle.hwdb_spec.specs.Lines.{byte, is, pieces}
use Rattle.hwdb_rulefiles.specs.RuleHints.{is_fault}
use Rattle.hwdb_rulefiles.specs.RuleTexts.{kind_name}
use Rattle.hwdb_rulefiles.specs.declared.findings.FindingKind.{FindingKind}
use Rattle.hwdb_spec_commands.specs.Checks.{one_file, tally_of}
use Rattle.hwdb_spec_commands.specs.Findings.{Finding, told}
use Rattle.hwdb_spec_commands.specs.RuleFindings.{findings_of, is_rules}
use Rattle.hwdb_spec_commands.specs.declared.formats.Format.TheVariants.{Text as Reports}
use Rattle.hwdb_spec_commands.specs.declared.kinds.TheConstants.{RULE_KINDS}

-- the names of the kinds of remarks, as `--allow` takes them
abbrev pub rule_kinds : List (List ℕ)
rule_kinds = pieces (is (byte "\n")) RULE_KINDS.now

-- these are the kinds of no fault
abbrev pub RuleKindsAreNamed : Type 0
RuleKindsAreNamed = (kind : FindingKind) → list_any (same (kind_name kind)) rule_kinds ≡ not (is_fault kind)

-- a remark, and then a fault
abbrev pub two : List ℕ
two = codes "KERNEL==\"a\"ENV{A}=\"1\"\n ATRS==\"x\"\n"

-- what is found in a rules file, if these words are allowed
abbrev pub found : (allowed : List (List ℕ)) (file : List ℕ) → List Finding
found allowed file = findings_of Reports allowed (codes "61-t.rules") file

abbrev pub kinds_of : List Finding → List (List ℕ)
kinds_of fs = map (λ f. f.kind) fs

-- what is told of rules files
pub record RuleFileRows : Type 0 where
  pub names : map is_rules (codes "a.rules" ∷ codes "d/61-a.rules" ∷ codes "a.rules.bak" ∷ codes "a.hwdb" ∷ codes "-" ∷ []) ≡ true ∷ true ∷ false ∷ false ∷ false ∷ []
  pub kinds : kinds_of (found [] two) ≡ codes "no-separator" ∷ codes "unknown-key" ∷ []
  pub faults : map (λ f. f.fault) (found [] two) ≡ false ∷ true ∷ []
  pub lines : map (λ f. f.line) (found [] two) ≡ 1 ∷ 2 ∷ []
  pub places : map (λ f. f.place) (found [] two) ≡ 11 ∷ 1 ∷ []
  pub sources : map (λ f. f.source) (found [] two) ≡ codes "KERNEL==\"a\"ENV{A}=\"1\"" ∷ codes " ATRS==\"x\"" ∷ []
  pub allowed : kinds_of (found (codes "unread, no-separator" ∷ []) two) ≡ codes "unknown-key" ∷ []
  pub stays : kinds_of (found (codes "unknown-key" ∷ codes "taken-as-set" ∷ []) two) ≡ codes "no-separator" ∷ codes "unknown-key" ∷ []
  pub by_place : map (λ f. f.line) (found [] (codes "GOTO=\"a\", \\\n OPTIONS=\"b\"\n")) ≡ 1 ∷ 2 ∷ []
  pub none : found [] [] ≡ []
  pub assigns : tally_of (codes "61-t.rules") (codes "a*\n A=1\n") ≡ one_file 0
  pub printed : flat_map (told Reports) (found [] (codes "ATRS==\"x\"\n"))
      ≡ codes "61-t.rules:1:1: error: the key isn't known: udev leaves the line out [unknown-key]\n    ATRS==\"x\"\n    ^\n    hint: udev(7) has all keys, in capitals\n"
