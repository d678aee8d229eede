use Rattle.std.proofs.Common.{◌∙◌, ap, length, nat_lt}
use Rattle.hwdb_spec.specs.Lines.{is}
use Rattle.hwdb_check.proofs.WarningLemmas.{some_found}
use Rattle.hwdb_check.proofs.line_warnings.holds_bracket.Goals as goal

pub returns : goal.returns
returns c = ap (λ n. nat_lt n (length c.args.text.now)) c.end_of.ensures.place ∙ some_found (is 91) c.args.text.now
