use Rattle.std.proofs.Common.{map, take}
use Rattle.hwdb_ruleasks.specs.Views.{IsSetOf, own_text}
use Rattle.hwdb_ruleasks.proofs.names.set_of.Given as goal

abbrev pub invariant-loop-text : goal.invariant-loop-text
invariant-loop-text l =
    IsSetOf (map own_text (take l.text-index l.texts)) l.set
