use Rattle.std.proofs.Common.{Bool, List, Option, subst, sym, ℕ}
use Rattle.std.specs.Prelude.{option_map}
use Rattle.hwdb_spec_commands.specs.SysfsAnswers.{sight_by}
use Rattle.hwdb_spec_program.specs.DeviceErrors.{asked_names}
use Rattle.hwdb_spec_rules.specs.declared.forms.Whose.{Whose}
use Rattle.hwdb_plan.specs.Device.{device_asked, device_plan, every_plan}
use Rattle.hwdb_plan.specs.Plans.{Follows}
use Rattle.hwdb_plan.specs.Sysfs.{OfCause}
use Rattle.hwdb_tool.specs.Views.{end_of}
use Rattle.hwdb_tool.proofs.every_device.devices.Goals as goal

pub returns-then-all-clause-follows : goal.returns-then-all-clause-follows
returns-then-all-clause-follows g c = λ tells.
    let w = g.D.System.reads c.args.system.now in
    let sight = sight_by g.D.DeviceFiles.answers c.args.system.now in
    let q = c.args.question in
    let given : Option (List ℕ) = option_map (λ t. t.now) q.given in
    subst (λ (all : Bool). OfCause (λ cause. Follows end_of w (device_asked sight cause asked_names q.root.now q.form (option_map (λ t. t.now) q.udev) all given) c.every.result)) (sym c.if-all.true)
    (subst (λ (by : Whose). OfCause (λ cause. Follows end_of w (every_plan sight cause asked_names q.root.now q.form by given) c.every.result)) c.whose-by.ensures (c.every.ensures.follows tells))

pub returns-else-all-clause-follows : goal.returns-else-all-clause-follows
returns-else-all-clause-follows g c = λ tells.
    let w = g.D.System.reads c.args.system.now in
    let sight = sight_by g.D.DeviceFiles.answers c.args.system.now in
    let q = c.args.question in
    let given : Option (List ℕ) = option_map (λ t. t.now) q.given in
    subst (λ (all : Bool). OfCause (λ cause. Follows end_of w (device_asked sight cause asked_names q.root.now q.form (option_map (λ t. t.now) q.udev) all given) c.device.result)) (sym c.if-all.false)
    (subst (λ (by : Whose). OfCause (λ cause. Follows end_of w (device_plan sight cause asked_names q.root.now by given) c.device.result)) c.whose-by.ensures (c.device.ensures.follows tells))
