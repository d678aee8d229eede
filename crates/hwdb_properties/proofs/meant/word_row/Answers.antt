use Rattle.std.proofs.Common.{◌∙◌, ap}
use Rattle.hwdb_spec_commands.specs.Properties.{first_row, same_letters, word}
use Rattle.hwdb_properties.proofs.meant.word_row.Goals as goal

pub returns : goal.returns
returns c = c.first_row.ensures ∙ ap (first_row (λ row. same_letters (word row) c.args.text.now)) c.as_bytes.ensures.value
