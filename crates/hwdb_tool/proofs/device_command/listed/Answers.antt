use Rattle.std.proofs.Common.{◌∙◌, ap}
use Rattle.hwdb_spec_commands.specs.DeviceAsked.{device_list}
use Rattle.hwdb_spec_commands.specs.SysfsAnswers.{sight_by}
use Rattle.hwdb_spec_program.specs.DeviceErrors.{asked_names}
use Rattle.hwdb_tool.specs.Views.{end_of}
use Rattle.hwdb_tool.proofs.DevicePlanLemmas.{answers_are, listed_follows, memory_listed, unlisted_follows}
use Rattle.hwdb_tool.proofs.device_command.listed.Goals as goal

pub returns-in_err-sys-clause-follows : goal.returns-in_err-sys-clause-follows
returns-in_err-sys-clause-follows g c = λ tells.
    let s = c.args.system.now in
    unlisted_follows end_of (g.D.System.reads s) (sight_by g.D.DeviceFiles.answers s) c.args.root.now asked_names c.in_err-sys.field-0.0 c.from_residual.result
    (c.in_err-sys.ensures.refused (c.devices_are_told.ensures tells)) c.from_residual.ensures.1

pub returns-in_err-text-clause-follows : goal.returns-in_err-text-clause-follows
returns-in_err-text-clause-follows g c = λ tells.
    let s = c.args.system.now in
    memory_listed end_of (g.D.System.reads s) (sight_by g.D.DeviceFiles.answers s) c.args.root.now asked_names c.from_residual-in_err-text.result c.from_residual-in_err-text.ensures.1

pub returns-clause-follows : goal.returns-clause-follows
returns-clause-follows g c = λ tells.
    let s = c.args.system.now in
    let sight = sight_by g.D.DeviceFiles.answers s in
    let told = c.devices_are_told.ensures tells in
    let a = c.new.result in
    listed_follows end_of (g.D.System.reads s) sight c.args.root.now asked_names c.in_ok-sys.sys.items a (c.in_ok-sys.ensures.found told)
    (answers_are a.status a.err.items a.out.items (device_list sight asked_names c.in_ok-sys.sys.items) c.new.ensures.status c.new.ensures.err
    (c.new.ensures.out ∙ c.in_ok-text.ensures told ∙ ap (device_list sight asked_names) c.deref.ensures.value))
