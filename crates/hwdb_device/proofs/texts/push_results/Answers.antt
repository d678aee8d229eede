use Rattle.std.proofs.Common.{◌∙◌, sym}
use Rattle.std.proofs.lemmas.Result.{on_ok_weaker}
use Rattle.hwdb_device.proofs.OutcomeLemmas.{headed}
use Rattle.hwdb_device.proofs.texts.push_results.Goals as goal

pub returns : goal.returns
returns c =
    on_ok_weaker c.push_outcomes.result
    (headed c.args.text.now.items c.extend_from_slice-2.new.self.items c.push_outcomes.new.text.items c.args.outcomes.now (sym c.is_empty.ensures ∙ c.if-is_empty.false) c.in_ok-extend_from_slice.ensures.items)
    c.push_outcomes.ensures
