-- The patch of text files, as the definitions have it.
use Rattle.std.specs.Prelude.{ℕ, List, Option, map, option_map}
use Rattle.std.specs.Borrow.{Bor}
use Rattle.hwdb_spec.specs.Folders.{Source}
use Rattle.hwdb_spec_commands.specs.RuleFindings.{findings_of}
use Rattle.hwdb_spec_commands.specs.Checks.{named}
use Rattle.hwdb_spec_commands.specs.Patches as spec
use Rattle.hwdb_spec_commands.specs.declared.formats.Format.{Format}
use Rattle.hwdb_check.specs.Checks.{source_of}
use Rattle.hwdb_check.specs.declared.files.TextFile.{TextFile}
use Rattle.hwdb_check.specs.declared.patched.Patched.{Patched}

-- the patch of some files
abbrev pub patched_of : Patched → spec.Patched
patched_of p = record { text = p.text.items; found = p.found; left = p.left }

-- that of some files, and of one more, whose findings have this format
abbrev pub after_file : Format → (allowed : List (List ℕ)) → spec.Patched → Source → spec.Patched
after_file format allowed so_far s = spec.with_file so_far s.name s.bytes (spec.mended (findings_of format allowed s.name) s.bytes)

-- some files with the names that findings have, if standard input has this one
abbrev pub sources_of : (name : Option (Bor (List ℕ))) → List TextFile → List Source
sources_of name files = map (named (option_map (λ t. t.now) name)) (map source_of files)
