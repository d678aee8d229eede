use Rattle.std.proofs.Common.{◌∙◌, ap, drop}
use Rattle.std.proofs.lemmas.List.{take_rest}
use Rattle.hwdb_spec.specs.Lines.{has}
use Rattle.hwdb_check.proofs.line_warnings.has_equals.Goals as goal

pub returns : goal.returns
returns c =
    c.holds_equals.ensures
    ∙ ap (has 61) (take_rest c.args.clean.now c.indent_of.result ∙ ap (λ n. drop n c.args.clean.now) c.indent_of.ensures.place)
