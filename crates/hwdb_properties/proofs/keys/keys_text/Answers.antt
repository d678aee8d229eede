use Rattle.std.proofs.Common.{◌∙◌, ◌++◌, ap, map}
use Rattle.std.specs.Prelude.{flat_map, string_bytes}
use Rattle.hwdb_spec.specs.Lines.{is, pieces}
use Rattle.hwdb_spec_commands.specs.KeysAsked.{asked_line, keys_text}
use Rattle.hwdb_properties.proofs.keys.keys_text.Goals as goal

pub returns : goal.returns
unfolding keys_text
returns c =
    let line = asked_line c.args.json (map string_bytes c.args.words.now) in
    c.in_ok-push_asked.ensures ∙ ap (λ t. t ++ flat_map line (pieces (is 10) c.as_bytes.result.now)) c.new-text.ensures.items
    ∙ ap (λ t. flat_map line (pieces (is 10) t)) c.as_bytes.ensures.value
