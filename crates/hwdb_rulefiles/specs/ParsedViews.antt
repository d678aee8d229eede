-- What a parsed file means.
use Rattle.std.specs.Prelude.{map}
use Rattle.hwdb_rulefiles.specs.RuleFiles
use Rattle.hwdb_rulefiles.specs.LineViews.{line_of}
use Rattle.hwdb_rulefiles.specs.declared.parsed.Parsed.{Parsed}

abbrev pub parsed_of : Parsed → RuleFiles.Parsed
parsed_of p = record { lines = map line_of p.lines.items; findings = p.findings.items }
