use Rattle.std.proofs.Common.{◌∙◌, Err, ap}
use Rattle.json.specs.declared.error.Error.{Error}
use Rattle.std.proofs.lemmas.Result.{IfOk-weaker}
use Rattle.json.specs.Value.{value_view}
use Rattle.hwdb_check.proofs.BaselineLemmas.{no_mark, read_mark}
use Rattle.hwdb_check.proofs.baselines.line_mark.Goals as goal

pub returns-in-Ok : goal.returns-in-Ok
returns-in-Ok c =
    IfOk-weaker c.mark_in.result _ _
    (λ mark is. is ∙ read_mark c.args.text.now (value_view c.in-Ok.value) c.in-Ok.ensures.ok.0 c.in-Ok.ensures.ok.1) c.mark_in.ensures

pub returns-in-Err-Invalid : goal.returns-in-Err-Invalid
returns-in-Err-Invalid c = no_mark c.args.text.now (λ utf8. c.in-Err-Invalid.ensures.invalid (ap (λ (e : Error). Err e) c.in-Err-Invalid.field-0-is) utf8)
