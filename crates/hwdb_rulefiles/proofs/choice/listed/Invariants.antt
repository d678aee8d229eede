use Rattle.std.proofs.Common.{◌≡◌, map}
use Rattle.hwdb_rulefiles.specs.ChoiceViews.{chosen_of}
use Rattle.hwdb_rulefiles.specs.RuleFolders.{listed}
use Rattle.hwdb_rulefiles.specs.FolderNames.{entry_of}
use Rattle.hwdb_rulefiles.proofs.choice.listed.Given as goal

abbrev pub invariant-loop-name : goal.invariant-loop-name
invariant-loop-name l = map chosen_of l.all.items ≡ listed (map entry_of l.yielded)
