-- What comments let pass, by the types of this crate.
use Rattle.std.specs.Prelude.{ℕ, List, flat_map}
use Rattle.std.specs.Borrow.{Bor}
use Rattle.hwdb_spec.specs.Lines.{Line}
use Rattle.hwdb_spec_commands.specs.AllowedKinds.{names_in}
use Rattle.hwdb_check.specs.Internal.{line_of, texts}
use Rattle.hwdb_check.specs.declared.kinds.Manner.{Manner}
use Rattle.hwdb_check.specs.declared.line_faults.FileLine.{FileLine}

-- a line of a file
abbrev pub file_line : FileLine → Line
file_line l = line_of l.number l.text.now

-- the names in some texts
abbrev pub all_names : List (Bor (List ℕ)) → List (List ℕ)
all_names ts = flat_map names_in (texts ts)

-- the names of the kinds that aren't told
abbrev pub names_of : Manner → List (List ℕ)
names_of m = all_names m.allowed.now
