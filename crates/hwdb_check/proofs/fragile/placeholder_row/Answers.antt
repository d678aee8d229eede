use Rattle.std.proofs.Common.{◌∙◌, ap}
use Rattle.hwdb_spec_commands.specs.Properties.{first_row, is_for}
use Rattle.hwdb_check.proofs.fragile.placeholder_row.Goals as goal

pub returns : goal.returns
returns c = c.first_row.ensures ∙ ap (first_row (λ row. is_for row c.args.word.now)) c.as_bytes.ensures.value
