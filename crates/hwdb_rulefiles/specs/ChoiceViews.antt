-- What a chosen file means.
use Rattle.std.specs.String.{string_bytes}
use Rattle.hwdb_rulefiles.specs.RuleFolders
use Rattle.hwdb_rulefiles.specs.declared.choice.ChosenRules.{ChosenRules}

abbrev pub chosen_of : ChosenRules → RuleFolders.Chosen
chosen_of c = record { folder = c.folder; name = string_bytes c.name }
