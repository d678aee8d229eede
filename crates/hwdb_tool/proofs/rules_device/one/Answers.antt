use Rattle.std.proofs.Common.{Bor, Err, List, Option, Some, false, refl, subst, sym, ℕ}
use Rattle.std.specs.Prelude.{option_map}
use Rattle.hwdb_spec_commands.specs.Refusals.{IsInWords}
use Rattle.hwdb_spec_commands.specs.SysfsAnswers.{sight_by}
use Rattle.hwdb_spec_program.specs.DeviceErrors.{asked_names}
use Rattle.hwdb_plan.specs.Device.{by_rules_plan}
use Rattle.hwdb_plan.specs.Plans.{Follows}
use Rattle.hwdb_plan.specs.Sysfs.{OfCause}
use Rattle.hwdb_tool.specs.Views.{end_of}
use Rattle.hwdb_tool.proofs.DevicePlanLemmas.{unnamed_follows}
use Rattle.hwdb_tool.proofs.rules_device.one.Goals as goal

pub returns-in-None-clause-follows : goal.returns-in-None-clause-follows
returns-in-None-clause-follows g c = λ tells.
    let s = c.args.system.now in
    let w = g.D.System.reads s in
    let sight = sight_by g.D.DeviceFiles.answers s in
    subst (λ (o : Option (Bor (List ℕ))). OfCause (λ cause. Follows end_of w (by_rules_plan sight cause asked_names c.args.root.now c.args.form false (option_map (λ t. t.now) o)) (Err c.misused.result))) (sym c.in-None.is)
    (unnamed_follows end_of w sight c.args.root.now c.args.form c.misused.result (Err c.misused.result)
    (subst (λ (t : List ℕ). IsInWords t c.misused.result) c.needs_device.ensures c.misused.ensures) refl)

pub returns-in-Some-clause-follows : goal.returns-in-Some-clause-follows
returns-in-Some-clause-follows g c = λ tells.
    let s = c.args.system.now in
    let w = g.D.System.reads s in
    let sight = sight_by g.D.DeviceFiles.answers s in
    subst (λ (o : Option (Bor (List ℕ))). OfCause (λ cause. Follows end_of w (by_rules_plan sight cause asked_names c.args.root.now c.args.form false (option_map (λ t. t.now) o)) c.meant.result)) (sym c.in-Some.is)
    (subst (λ (given : List ℕ). OfCause (λ cause. Follows end_of w (by_rules_plan sight cause asked_names c.args.root.now c.args.form false (Some given)) c.meant.result)) c.as_bytes.ensures.value (c.meant.ensures.follows tells))
