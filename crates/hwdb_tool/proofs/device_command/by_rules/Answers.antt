use Rattle.std.proofs.Common.{subst, sym}
use Rattle.std.specs.Prelude.{option_map}
use Rattle.hwdb_spec_commands.specs.SysfsAnswers.{sight_by}
use Rattle.hwdb_spec_program.specs.DeviceErrors.{asked_names}
use Rattle.hwdb_spec_rules.specs.declared.forms.Whose.{Whose}
use Rattle.hwdb_plan.specs.Device.{by_rules}
use Rattle.hwdb_plan.specs.Plans.{Follows}
use Rattle.hwdb_tool.specs.Views.{end_of}
use Rattle.hwdb_tool.proofs.device_command.by_rules.Goals as goal

pub returns-in-Own-clause-follows : goal.returns-in-Own-clause-follows
returns-in-Own-clause-follows g c = λ tells.
    let below = c.args.below.now in
    let s = below.system.now in
    subst (λ (whose : Whose). Follows end_of (g.D.System.reads s) (by_rules (sight_by g.D.DeviceFiles.answers s) asked_names below.root.now whose below.sys.now (option_map (λ p. p.now) c.args.place)) c.by_own.result) (sym c.in-Own.is)
    (c.by_own.ensures.follows tells)

pub returns-in-OwnFirst-clause-follows : goal.returns-in-OwnFirst-clause-follows
returns-in-OwnFirst-clause-follows g c = λ tells.
    let below = c.args.below.now in
    let s = below.system.now in
    subst (λ (whose : Whose). Follows end_of (g.D.System.reads s) (by_rules (sight_by g.D.DeviceFiles.answers s) asked_names below.root.now whose below.sys.now (option_map (λ p. p.now) c.args.place)) c.by_own_first.result) (sym c.in-OwnFirst.is)
    (c.by_own_first.ensures.follows tells)

pub returns-in-BuiltIn-clause-follows : goal.returns-in-BuiltIn-clause-follows
returns-in-BuiltIn-clause-follows g c = λ tells.
    let below = c.args.below.now in
    let s = below.system.now in
    subst (λ (whose : Whose). Follows end_of (g.D.System.reads s) (by_rules (sight_by g.D.DeviceFiles.answers s) asked_names below.root.now whose below.sys.now (option_map (λ p. p.now) c.args.place)) c.by_built_in.result) (sym c.in-BuiltIn.is)
    (c.by_built_in.ensures.follows tells)
