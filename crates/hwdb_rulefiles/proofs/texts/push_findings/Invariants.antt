use Rattle.std.proofs.Common.{◌≡◌, ◌++◌, drop, map}
use Rattle.std.specs.Prelude.{flat_map}
use Rattle.hwdb_rulefiles.specs.RuleTexts
use Rattle.hwdb_rulefiles.specs.Views.{text_of}
use Rattle.hwdb_rulefiles.proofs.texts.push_findings.Given as goal

abbrev pub invariant-loop-finding : goal.invariant-loop-finding
invariant-loop-finding l =
    l.text.items ++ flat_map (RuleTexts.finding_line l.path (map text_of l.rows)) (drop l.finding-index l.findings)
    ≡ l.initial.text.items ++ flat_map (RuleTexts.finding_line l.path (map text_of l.rows)) l.findings
