use Rattle.std.proofs.Common.{false}
use Rattle.hwdb_spec.specs.Visible.{visible}
use Rattle.hwdb_spec_commands.specs.declared.colours.LinePart.TheVariants as part
use Rattle.hwdb_show.proofs.ColourLemmas.{taken_out}
use Rattle.hwdb_show.proofs.VisibleLemmas.{kept_after, no_escape, rows_are, same_shown}
use Rattle.hwdb_show.proofs.visible.shown_has_no_control.Goals as goal

pub returns-clause-kept : goal.returns-clause-kept
returns-clause-kept c = λ n text bytes. kept_after n text 0 bytes

pub returns-clause-same : goal.returns-clause-same
returns-clause-same c = λ n text kept. same_shown n text kept

pub returns-clause-coloured : goal.returns-clause-coloured
returns-clause-coloured c = λ kind text bytes. taken_out kind part.Ended (visible text) (no_escape (visible text) (kept_after false text 0 bytes))

pub returns-clause-rows : goal.returns-clause-rows
returns-clause-rows c = rows_are
