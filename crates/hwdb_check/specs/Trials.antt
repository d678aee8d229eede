-- Lines of a file that are tried, as the definitions have them.
use Rattle.std.specs.Prelude.{◌≡◌}
use Rattle.hwdb_spec_commands.specs.Patches.{text_of}
use Rattle.hwdb_check.specs.Found.{finds}
use Rattle.hwdb_check.specs.Patching.{edits_of}
use Rattle.hwdb_check.specs.Places.{told_at}
use Rattle.hwdb_check.specs.declared.sure.Place.{Place}
use Rattle.hwdb_check.specs.declared.sure.Trial.{Trial}

-- their text is that of the file with them, and what was found is what is told of it
pub record IsTrial (p : Place) (t : Trial) : Type 0 where
  pub text : t.text.items ≡ text_of p.ended (edits_of t.edits.items)
  pub found : finds t.found.items ≡ told_at p (text_of p.ended (edits_of t.edits.items))
