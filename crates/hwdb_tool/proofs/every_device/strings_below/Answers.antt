use Rattle.std.proofs.Common.{List, None, subst, ℕ}
use Rattle.hwdb_spec_commands.specs.SysfsAnswers.{sight_by}
use Rattle.hwdb_spec_program.specs.DeviceErrors.{asked_names}
use Rattle.hwdb_plan.specs.Device.{by_rules}
use Rattle.hwdb_plan.specs.Plans.{Follows}
use Rattle.hwdb_tool.specs.Views.{end_of}
use Rattle.hwdb_tool.proofs.DevicePlanLemmas.{strings_follow, unsaid_follows}
use Rattle.hwdb_tool.proofs.every_device.strings_below.Goals as goal

pub returns-in_err-sys-clause-follows : goal.returns-in_err-sys-clause-follows
returns-in_err-sys-clause-follows g c = λ tells.
    let s = c.args.system.now in
    unsaid_follows end_of (g.D.System.reads s) (sight_by g.D.DeviceFiles.answers s) c.args.root.now asked_names c.args.whose c.in_err-sys.field-0.0 c.from_residual.result
    (c.in_err-sys.ensures.refused (c.devices_are_told.ensures tells)) c.from_residual.ensures.1

pub returns-clause-follows : goal.returns-clause-follows
returns-clause-follows g c = λ tells.
    let s = c.args.system.now in
    let w = g.D.System.reads s in
    let sight = sight_by g.D.DeviceFiles.answers s in
    let result = c.by_rules.result in
    strings_follow end_of w sight c.args.root.now asked_names c.args.whose c.in_ok-sys.sys.items result (c.in_ok-sys.ensures.found (c.devices_are_told.ensures tells))
    (subst (λ (sys : List ℕ). Follows end_of w (by_rules sight asked_names c.args.root.now c.args.whose sys None) result) c.deref.ensures.value (c.by_rules.ensures.follows tells))
