use Rattle.std.proofs.Common.{◌∙◌, ap, not}
use Rattle.hwdb_ruleevents.proofs.ValueLemmas.{used_none, used_utf8}
use Rattle.hwdb_ruleevents.proofs.values.is_used.Goals as goal

pub returns-in-Ok : goal.returns-in-Ok
returns-in-Ok c = ap not c.is_unused.ensures ∙ used_utf8 c.args.text.now c.in-Ok.ensures.cases.1

pub returns-in-Err : goal.returns-in-Err
returns-in-Err c = used_none c.args.text.now c.in-Err.ensures.cases.0
