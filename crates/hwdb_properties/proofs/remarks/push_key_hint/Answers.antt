use Rattle.std.proofs.Common.{◌≡◌, ◌++◌, ℕ, List, OnOk, subst}
use Rattle.hwdb_spec_commands.specs.Properties.{bare_hint}
use Rattle.hwdb_properties.proofs.remarks.push_key_hint.Goals as goal

pub returns : goal.returns
returns c =
    subst (λ (key : List ℕ). OnOk c.push_bare_hint.result (c.push_bare_hint.new.text.items ≡ c.args.text.now.items ++ bare_hint key))
    c.bare_key.ensures c.push_bare_hint.ensures
