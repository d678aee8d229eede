use Rattle.std.proofs.Common.{List, Some, subst, ℕ, ◌≡◌}
use Rattle.hwdb_spec_commands.specs.DeviceFound.{only, places_meant}
use Rattle.hwdb_spec_commands.specs.SysfsAnswers.{sight_by}
use Rattle.hwdb_spec_program.specs.DeviceErrors.{IsNoDevice, asked_names}
use Rattle.hwdb_plan.specs.Device.{by_rules}
use Rattle.hwdb_plan.specs.Plans.{Follows}
use Rattle.hwdb_tool.specs.Views.{end_of}
use Rattle.hwdb_tool.proofs.DevicePlanLemmas.{no_device_for, no_sysfs_for, place_follows}
use Rattle.hwdb_tool.proofs.device_command.meant.Goals as goal

pub returns-in_err-sys-clause-follows : goal.returns-in_err-sys-clause-follows
returns-in_err-sys-clause-follows g c = λ tells.
    let s = c.args.system.now in
    no_sysfs_for end_of (g.D.System.reads s) (sight_by g.D.DeviceFiles.answers s) c.args.root.now c.args.given.now c.args.whose c.in_err-sys.field-0.0 c.from_residual.result
    (c.in_err-sys.ensures.refused (c.devices_are_told.ensures tells)) c.from_residual.ensures.1

pub returns-in_err-place-clause-follows : goal.returns-in_err-place-clause-follows
returns-in_err-place-clause-follows g c = λ tells.
    let s = c.args.system.now in
    let sight = sight_by g.D.DeviceFiles.answers s in
    let told = c.devices_are_told.ensures tells in
    no_device_for end_of (g.D.System.reads s) sight c.args.root.now c.args.given.now c.args.whose c.in_ok-sys.sys.items c.in_err-place.field-0.0 c.from_residual-in_err-place.result
    (c.in_ok-sys.ensures.found told)
    (subst (λ (sys : List ℕ). IsNoDevice c.args.root.now sys c.args.given.now sight c.in_err-place.field-0.0) c.deref.ensures.value (c.in_err-place.ensures.refused told)) c.from_residual-in_err-place.ensures.1

pub returns-clause-follows : goal.returns-clause-follows
returns-clause-follows g c = λ tells.
    let s = c.args.system.now in
    let w = g.D.System.reads s in
    let sight = sight_by g.D.DeviceFiles.answers s in
    let told = c.devices_are_told.ensures tells in
    let sys = c.in_ok-sys.sys.items in
    let place = c.in_ok-place.place.items in
    let result = c.by_rules.result in
    let In : (sys place : List ℕ) → Type 0 = λ sys place. Follows end_of w (by_rules sight asked_names c.args.root.now c.args.whose sys (Some place)) result in
    place_follows end_of w sight c.args.root.now c.args.given.now c.args.whose sys place result (c.in_ok-sys.ensures.found told)
    (subst (λ (x : List ℕ). only (places_meant sight asked_names c.args.root.now x c.args.given.now) ≡ Some place) c.deref.ensures.value (c.in_ok-place.ensures.found told))
    (subst (λ (x : List ℕ). In x place) c.deref-2.ensures.value (subst (λ (x : List ℕ). In c.deref-2.result.now x) c.deref-3.ensures.value (c.by_rules.ensures.follows tells)))
