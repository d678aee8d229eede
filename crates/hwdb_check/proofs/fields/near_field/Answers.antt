use Rattle.std.proofs.Common.{◌∙◌, ap}
use Rattle.hwdb_spec_commands.specs.Properties.{first_row, is_near_name, word}
use Rattle.hwdb_check.proofs.fields.near_field.Goals as goal

pub returns : goal.returns
returns c = c.first_row.ensures ∙ ap (first_row (λ row. is_near_name (word row) c.args.word.now)) c.as_bytes.ensures.value
