-- The rows, computed.
use Rattle.clap.specs.Faults.{defaults_fault, flags_fault, walk_fault}
use Rattle.clap.specs.Walk.{bundle_met, walked}
use Rattle.hex.specs.Hex.{encode_with}
use Rattle.hwdb_spec.specs.Lines.{pieces}
use Rattle.hwdb_spec.specs.Visible.{visible_after}
use Rattle.hwdb_spec_commands.specs.DeviceTree.{last_after}
use Rattle.hwdb_plan.specs.Folders.{read_texts}
use Rattle.hwdb_plan.specs.OwnRules.{sources_of}
use Rattle.hwdb_plan.specs.Plans.{Ends}
use Rattle.hwdb_laws.specs.OwnRulesRows.{FitRows, FolderRows, NameRows, ReadRows, WordRows}
use Rattle.std.specs.Char.{encode_utf8}
use Rattle.std.specs.Fmt.{digits}
use Rattle.std.specs.Str.{chars, is_utf8}
use Rattle.std.proofs.Common.{refl}

pub folder_rows : FolderRows
folder_rows = (refl, refl)

pub name_rows : NameRows
unfolding is_utf8 chars encode_utf8
name_rows = refl

pub fit_rows : FitRows
fit_rows = (refl, refl)

pub word_rows : WordRows
unfolding pieces visible_after is_utf8 chars encode_utf8 encode_with digits bundle_met walked flags_fault walk_fault defaults_fault last_after
word_rows = λ a. refl

pub read_rows : ReadRows
unfolding Ends read_texts sources_of is_utf8 chars encode_utf8
read_rows = (refl, refl, refl, refl)
