use Rattle.std.proofs.Common.{List}
use Rattle.std.specs.Prelude.{option_map}
use Rattle.hwdb_spec.specs.Folders.{Source}
use Rattle.hwdb_spec_commands.specs.SysfsAnswers.{sight_by}
use Rattle.hwdb_spec_program.specs.DeviceErrors.{asked_names}
use Rattle.hwdb_plan.specs.Device.{by_files_first}
use Rattle.hwdb_plan.specs.Lemmas.Folders.{value_ends, value_ends_in}
use Rattle.hwdb_plan.specs.OwnRules.{own_rules}
use Rattle.hwdb_plan.specs.Plans.{Plan}
use Rattle.hwdb_system.specs.OwnRules.{sources_in}
use Rattle.hwdb_tool.specs.Views.{end_of}
use Rattle.hwdb_tool.proofs.rules_device.by_own_first.Goals as goal

pub returns-in_err-read-clause-follows : goal.returns-in_err-read-clause-follows
returns-in_err-read-clause-follows g c = λ tells.
    let below = c.args.below.now in
    let s = below.system.now in
    let next : List Source → Plan = by_files_first (sight_by g.D.DeviceFiles.answers s) asked_names below.root.now c.args.form below.sys.now (option_map (λ p. p.now) c.args.place) in
    value_ends_in (g.D.System.reads s) sources_in end_of (own_rules below.root.now) next c.in_err-read.field-0.0 c.from_residual.result (c.in_err-read.ensures.told tells) c.from_residual.ensures.1

pub returns-clause-follows : goal.returns-clause-follows
returns-clause-follows g c = λ tells.
    let below = c.args.below.now in
    let s = below.system.now in
    let next : List Source → Plan = by_files_first (sight_by g.D.DeviceFiles.answers s) asked_names below.root.now c.args.form below.sys.now (option_map (λ p. p.now) c.args.place) in
    value_ends (g.D.System.reads s) sources_in end_of (own_rules below.root.now) next c.in_ok-read.read c.by_files_first.result (c.in_ok-read.ensures.told tells) (c.by_files_first.ensures.follows tells)
