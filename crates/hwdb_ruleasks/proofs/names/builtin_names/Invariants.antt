use Rattle.std.proofs.Common.{◌≡◌, ◌++◌, map}
use Rattle.hwdb_spec.specs.Lines.{is, pieces}
use Rattle.hwdb_spec_commands.specs.declared.attributes.TheConstants.{ATTRIBUTES}
use Rattle.hwdb_text.specs.PiecesLeft.{lines_left}
use Rattle.hwdb_ruleasks.specs.Views.{own_text}
use Rattle.hwdb_ruleasks.proofs.names.builtin_names.Given as goal

abbrev pub invariant-loop-name : goal.invariant-loop-name
invariant-loop-name l =
    map own_text l.names.items ++ lines_left l.name-iterator ≡ pieces (is 10) ATTRIBUTES.now
