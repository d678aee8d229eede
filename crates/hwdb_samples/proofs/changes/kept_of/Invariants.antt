use Rattle.std.proofs.Common.{◌≡◌, ◌++◌, List, map, take}
use Rattle.hwdb_spec_commands.specs.SamplesFound.{kept, lone}
use Rattle.hwdb_samples.specs.Internal.{IsLasts}
use Rattle.hwdb_spec_commands.specs.SampleRules.{RuleTexts}
use Rattle.hwdb_samples.specs.Views.{own_text, rule_texts}
use Rattle.hwdb_samples.proofs.changes.kept_of.Given as goal

abbrev pub invariant-loop-rule : goal.invariant-loop-rule
invariant-loop-rule l = record {
  kept : (rules : List RuleTexts) → IsLasts rules l.other → map rule_texts l.kept.items ≡ kept rules (map rule_texts (take l.rule-index l.one));
  listed : (rules : List RuleTexts) → IsLasts rules l.other → map own_text l.listed.items ≡ map own_text l.fn.listed.items ++ lone rules (map rule_texts (take l.rule-index l.one));
}
