-- The lines of a file, some of which are mended, as the definitions have them.
use Rattle.std.specs.Prelude.{◌≡◌, List, length, map}
use Rattle.std.specs.Option.{option_map}
use Rattle.hwdb_spec_commands.specs.Findings.{Finding}
use Rattle.hwdb_spec_commands.specs.Patches as spec
use Rattle.hwdb_check.specs.declared.edits.Change.{Change}
use Rattle.hwdb_check.specs.declared.edits.Change.TheVariants.{Mend, MendAgain, TakeBack}
use Rattle.hwdb_check.specs.declared.edits.Edit.{Edit}
use Rattle.hwdb_check.specs.declared.sure.Mended.{Mended}

-- a line
abbrev pub edit_of : Edit → spec.Edit
edit_of e = record { number = e.number; old = e.old.now; new = option_map (λ t. t.items) e.new }

-- some lines
abbrev pub edits_of : List Edit → List spec.Edit
edits_of es = map edit_of es

-- what is done with a line by its findings
abbrev pub change_of : Change → List Finding → spec.Edit → spec.Edit
change_of Mend = spec.mend
change_of MendAgain = spec.mend_again
change_of TakeBack = spec.take_back

-- a file was mended so
pub record IsMended (m : spec.Mended) (now : Mended) : Type 0 where
  pub edits : edits_of now.edits.items ≡ m.edits
  pub before : now.before ≡ length m.before
  pub left : now.left ≡ length m.left
