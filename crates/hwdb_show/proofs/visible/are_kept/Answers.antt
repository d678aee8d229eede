use Rattle.std.proofs.Common.{◌∙◌}
use Rattle.hwdb_show.proofs.VisibleLemmas.{kept_text, none_kept}
use Rattle.hwdb_show.proofs.visible.are_kept.Goals as goal

pub returns-in-Ok : goal.returns-in-Ok
returns-in-Ok c = c.all_kept.ensures ∙ kept_text c.args.in_name c.in-Ok.text.now c.args.bytes.now c.in-Ok.ensures.cases.0 c.in-Ok.ensures.cases.1

pub returns-in-Err : goal.returns-in-Err
returns-in-Err c = none_kept c.args.in_name c.args.bytes.now c.in-Err.ensures.cases.0
