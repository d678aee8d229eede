use Rattle.std.proofs.Common.{◌∙◌, ◌≡◌, ◌++◌, ℕ, List, OnOk, ap, subst}
use Rattle.hwdb_spec_commands.specs.Properties.{code_hint, word}
use Rattle.hwdb_properties.proofs.remarks.push_scan_hint.Goals as goal

pub returns : goal.returns
returns c =
    subst (λ (own : List ℕ). OnOk c.push_code_hint.result (c.push_code_hint.new.text.items ≡ c.args.text.now.items ++ code_hint own c.args.name.now))
    (c.word.ensures ∙ ap word c.property_row.ensures) c.push_code_hint.ensures
