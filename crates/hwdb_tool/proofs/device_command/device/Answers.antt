use Rattle.std.proofs.Common.{Bor, List, Option, subst, sym, ℕ}
use Rattle.std.specs.Prelude.{option_map}
use Rattle.hwdb_spec_commands.specs.SysfsAnswers.{sight_by}
use Rattle.hwdb_spec_program.specs.DeviceErrors.{asked_names}
use Rattle.hwdb_plan.specs.Device.{device_plan, meant_plan}
use Rattle.hwdb_plan.specs.Sysfs.{OfCause}
use Rattle.hwdb_plan.specs.Plans.{Follows}
use Rattle.hwdb_tool.specs.Views.{end_of}
use Rattle.hwdb_tool.proofs.device_command.device.Goals as goal

pub returns-in-Some-clause-follows : goal.returns-in-Some-clause-follows
returns-in-Some-clause-follows g c = λ tells.
    let w = g.D.System.reads c.args.system.now in
    let sight = sight_by g.D.DeviceFiles.answers c.args.system.now in
    let root = c.args.root.now in
    let whose = c.args.whose in
    let result = c.meant.result in
    subst (λ (o : Option (Bor (List ℕ))). OfCause (λ cause. Follows end_of w (device_plan sight cause asked_names root whose (option_map (λ t. t.now) o)) result)) (sym c.in-Some.is)
    (subst (λ (given : List ℕ). OfCause (λ cause. Follows end_of w (meant_plan sight cause asked_names root given whose) result)) c.as_bytes.ensures.value (c.meant.ensures.follows tells))
