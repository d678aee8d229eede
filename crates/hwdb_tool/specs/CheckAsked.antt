-- What the words of `check` have it say of files.
use Rattle.std.specs.Prelude.{Bool, List, Option, map, option_map, string_bytes, ℕ}
use Rattle.hwdb_spec.specs.Folders.{Source}
use Rattle.hwdb_spec_commands.specs.Checks.{rules_name}
use Rattle.hwdb_spec_commands.specs.Patches.{format_asked}
use Rattle.hwdb_spec_commands.specs.declared.args.CheckArgs.{CheckArgs}
use Rattle.hwdb_plan.specs.Check.{said_of}
use Rattle.hwdb_plan.specs.Plans.{End}

-- the files, the name of standard input, and the baseline that they give
abbrev pub files_of : CheckArgs → List (List ℕ)
files_of args = map string_bytes args.files.items

abbrev pub name_of : CheckArgs → Option (List ℕ)
name_of args = option_map string_bytes args.name

abbrev pub baseline_of : CheckArgs → Option (List ℕ)
baseline_of args = option_map string_bytes args.baseline

-- what is said of files, by the name that standard input has, and what a baseline has
abbrev pub say_of : CheckArgs → (strict : Bool) → (name : Option (List ℕ)) (known : List (List ℕ)) → List Source → End
say_of args strict = said_of (format_asked args.diff args.json (option_map string_bytes args.format)) strict (map string_bytes args.allowed.items)

-- the name that standard input has as a rules file
abbrev pub named_as : CheckArgs → Option (List ℕ)
named_as args = rules_name (name_of args) (files_of args)
