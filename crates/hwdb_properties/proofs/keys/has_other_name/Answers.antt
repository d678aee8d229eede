use Rattle.std.proofs.Common.{◌∙◌, ap}
use Rattle.std.specs.List.{list_any}
use Rattle.hwdb_spec.specs.Lines.{is, pieces}
use Rattle.hwdb_spec_commands.specs.KeysAsked.{is_called_so}
use Rattle.hwdb_properties.proofs.keys.has_other_name.Goals as goal

pub returns : goal.returns
returns c = c.is_called_in.ensures ∙ ap (λ t. list_any (is_called_so c.args.part.now c.args.key.now) (pieces (is 10) t)) c.as_bytes.ensures.value
