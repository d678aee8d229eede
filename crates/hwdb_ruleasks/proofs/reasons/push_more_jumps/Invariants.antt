use Rattle.std.proofs.Common.{◌≡◌, ◌++◌, drop, map}
use Rattle.hwdb_rulefiles.specs.Views.{text_of}
use Rattle.hwdb_spec_rules.specs.RuleReasons
use Rattle.hwdb_ruleasks.proofs.reasons.push_more_jumps.Given as goal

abbrev pub invariant-loop-label : goal.invariant-loop-label
invariant-loop-label l =
    l.text.items ++ RuleReasons.more_texts (map RuleReasons.jump_text (map text_of (drop l.label-index l.labels)))
    ≡ l.fn.text.items ++ RuleReasons.more_texts (map RuleReasons.jump_text (map text_of l.labels))
