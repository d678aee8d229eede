use Rattle.std.proofs.Common.{◌≡◌, ◌++◌, ℕ, List, OnOk, subst}
use Rattle.hwdb_spec_commands.specs.Properties.{bare_code_hint}
use Rattle.hwdb_properties.proofs.remarks.push_code_hint.Goals as goal

pub returns : goal.returns
returns c =
    subst (λ (code : List ℕ). OnOk c.push_bare_code_hint.result (c.push_bare_code_hint.new.text.items ≡ c.args.text.now.items ++ bare_code_hint c.args.own.now code))
    c.bare_code.ensures c.push_bare_code_hint.ensures
