-- What was read of rules files means.
use Rattle.std.specs.Prelude.{map}
use Rattle.hwdb_rulefiles.specs.LineViews.{line_of}
use Rattle.hwdb_spec_rules.specs.RuleStrings.{RulesFile}
use Rattle.hwdb_ruleasks.specs.declared.files.ParsedFile.{ParsedFile}

abbrev pub parsed_of : ParsedFile → RulesFile
parsed_of f = record { name = f.name.now; lines = map line_of f.parsed.lines.items }
