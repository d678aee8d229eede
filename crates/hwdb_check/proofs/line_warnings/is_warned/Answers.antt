use Rattle.std.proofs.Common.{◌∙◌, ap, nat_lt, sym}
use Rattle.hwdb_spec_commands.specs.Warnings.{warns}
use Rattle.hwdb_check.specs.Internal.{line_of, read_line}
use Rattle.hwdb_check.proofs.ReplaceLemmas.{some_replaces}
use Rattle.hwdb_check.proofs.line_warnings.is_warned.Goals as goal

pub returns-in-Replaced : goal.returns-in-Replaced
returns-in-Replaced c =
    c.is_replaced.ensures
    ∙ ap (nat_lt 0) c.requires.replaced
    ∙ sym (some_replaces c.args.line.now.bytes.now c.args.line.now.number)
    ∙ ap (λ k. warns c.args.line.now.bytes.now k (read_line c.args.line.now) (line_of c.args.line.now.number c.args.line.now.clean.now)) (sym c.in-Replaced.is)
