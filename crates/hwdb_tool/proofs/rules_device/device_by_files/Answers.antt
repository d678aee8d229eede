use Rattle.std.proofs.Common.{subst}
use Rattle.hwdb_spec.specs.Lines.{is, pieces}
use Rattle.hwdb_spec_commands.specs.DeviceTree.{device_at}
use Rattle.hwdb_spec_commands.specs.Sysfs.{Device}
use Rattle.hwdb_spec_commands.specs.SysfsAnswers.{sight_by}
use Rattle.hwdb_plan.specs.Asking.{asked}
use Rattle.hwdb_plan.specs.Device.{rules_answer}
use Rattle.hwdb_plan.specs.Plans.{Follows}
use Rattle.hwdb_tool.specs.Views.{end_of}
use Rattle.hwdb_tool.proofs.DevicePlanLemmas.{memory_follows}
use Rattle.hwdb_tool.proofs.rules_device.device_by_files.Goals as goal

pub returns-in_err-device-clause-follows : goal.returns-in_err-device-clause-follows
returns-in_err-device-clause-follows g c = λ tells sources are.
    let sysfs = c.args.sysfs.now in
    let s = sysfs.files.now in
    memory_follows end_of (g.D.System.reads s)
    (asked c.args.root.now (rules_answer c.args.by.form sources (device_at (sight_by g.D.DeviceFiles.answers s) (pieces (is 10) sysfs.names.now) sysfs.folder.now c.args.place.now)))
    c.from_residual.result c.from_residual.ensures.1

pub returns-clause-follows : goal.returns-clause-follows
returns-clause-follows g c = λ tells sources are.
    let s = c.args.sysfs.now.files.now in
    subst (λ (d : Device). Follows end_of (g.D.System.reads s) (asked c.args.root.now (rules_answer c.args.by.form sources d)) c.answered.result) (c.in_ok-device.ensures (c.devices_are_told.ensures tells))
    (c.answered.ensures.follows tells sources are)
