use Rattle.std.proofs.Common.{List, Option, ap, refl, sym, ◌∙◌, ℕ}
use Rattle.std.specs.Prelude.{option_map}
use Rattle.hwdb_spec.specs.Store.{path_in}
use Rattle.hwdb_spec_commands.specs.Exports as spec
use Rattle.hwdb_exports.specs.Views.{exported, rule_of, spot_at}
use Rattle.hwdb_exports.proofs.StepLemmas.{unmade}
use Rattle.hwdb_exports.proofs.devices.put_attribute.Goals as goal

pub returns-in_default : goal.returns-in_default
returns-in_default c = λ path.
    let d = exported c.args.device.now in
    unmade (λ (o : Option (List ℕ)). option_map (spec.file_with (path_in (spec.exported_folder d.path) (spec.rule_of c.args.rule.now).name)) o) path (spot_at c.args.spots.now path)
    (spec.told_by_rule (spec.rule_of c.args.rule.now) d.lines) refl
    (ap (option_map (λ v. v.items)) (sym c.in_default.is) ∙ c.in_ok-text.ensures ∙ ap (λ (r : spec.Rule). spec.told_by_rule r d.lines) c.rule_of-rule.ensures)
