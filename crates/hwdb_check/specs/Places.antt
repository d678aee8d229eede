-- What is found in a text of a file, by the types of this crate.
use Rattle.std.specs.Prelude.{ℕ, List, map, string_bytes}
use Rattle.hwdb_spec_commands.specs.RuleFindings.{findings_of}
use Rattle.hwdb_spec_commands.specs.Findings.{Finding}
use Rattle.hwdb_check.specs.declared.sure.Place.{Place}

-- what is found in such a text
abbrev pub told_at : Place → (text : List ℕ) → List Finding
told_at p = findings_of p.telling.now.format (map string_bytes p.telling.now.allowed.now) p.path.now
