use Rattle.std.proofs.Common.{ap, sym, ◌∙◌}
use Rattle.std.specs.Prelude.{codes, option_map}
use Rattle.hwdb_spec_commands.specs.Exports as spec
use Rattle.hwdb_exports.proofs.StepLemmas.{by_third}
use Rattle.hwdb_exports.proofs.above.looked_at.Goals as goal

pub returns-in-Some-3 : goal.returns-in-Some-3
returns-in-Some-3 c =
    by_third c.args.path.now c.in-Some-3.found.items (spec.by_device c.args.path.now (codes "name")) (spec.by_device c.args.path.now (codes "id/vendor")) (spec.by_device c.args.path.now (codes "id/product"))
    (sym c.in_ok-found.ensures ∙ ap (option_map (λ v. v.items)) c.in_default.is) (sym c.in_ok-found-2.ensures ∙ ap (option_map (λ v. v.items)) c.in_default-2.is)
    (sym c.in_ok-found-3.ensures ∙ ap (option_map (λ v. v.items)) c.in-Some-3.is)
