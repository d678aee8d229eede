-- The machine's own rules files, as the code holds them.
use Rattle.std.specs.Prelude.{List, None, Option, Some, if◌then◌else◌, map, string_bytes, ℕ}
use Rattle.hwdb_spec.specs.Folders.{Source}
use Rattle.hwdb_rulefiles.specs.RuleFolders.{counts}
use Rattle.hwdb_plan.specs.OwnRules.{sources_of}
use Rattle.hwdb_system.specs.declared.rule_folders.RulesRead.{RulesRead}

-- a name, if it is that of a rules file
abbrev pub rules_name : (name : List ℕ) → Option (List ℕ)
rules_name name = if counts name then Some name else None

-- the files with their paths and texts
abbrev pub sources_in : RulesRead → List Source
sources_in r = sources_of (map string_bytes r.paths.items) (map (λ t. t.items) r.texts.items)
