use Rattle.std.proofs.Common.{◌≡◌, ◌++◌, map}
use Rattle.hwdb_spec.specs.Assignment.{in_order, text_cmp}
use Rattle.hwdb_ruleasks.specs.Views.{own_text}
use Rattle.hwdb_ruleasks.proofs.names.ordered.Given as goal

abbrev pub invariant-loop-text : goal.invariant-loop-text
invariant-loop-text l =
    map own_text l.list.items ++ map own_text l.text-iterator ≡ in_order text_cmp (map own_text l.fn.texts)
