use Rattle.std.proofs.Common.{ap, map, List, ◌++◌, ℕ, ◌∙◌}
use Rattle.hwdb_spec_commands.specs.DeviceAsked.{link_row}
use Rattle.hwdb_spec_commands.specs.SysfsAnswers.{sight_by}
use Rattle.hwdb_spec_program.specs.DeviceErrors.{asked_names}
use Rattle.hwdb_tool.proofs.DeviceLemmas.{rows_all, rows_more}
use Rattle.hwdb_tool.proofs.device_command.list_text.Goals as goal
use Rattle.hwdb_sysfs.specs.Lemmas.Names.{items}

pub loop-link-preserved : goal.loop-link-preserved
loop-link-preserved g c = λ tells.
    let row : List ℕ → List ℕ = link_row (sight_by g.F.DeviceFiles.answers c.args.files.now) asked_names c.args.sys.now in
    rows_more row c.deref-link-items.result.now c.loop-link.link-index _ c.link-item.result c.loop-link.text.items c.push_row.new.text.items
    c.loop-link-test.true c.link-item.is (c.loop-link.invariant tells)
    (c.in_ok-push_row.ensures tells ∙ ap (λ (p : List ℕ). c.loop-link.text.items ++ row p) c.deref.ensures.value)

pub returns : goal.returns
returns g c = λ tells.
    let row : List ℕ → List ℕ = link_row (sight_by g.F.DeviceFiles.answers c.args.files.now) asked_names c.args.sys.now in
    rows_all row c.deref-link-items.result.now c.loop-link.link-index c.loop-link.text.items _
    c.loop-link-test.false (c.loop-link.invariant tells) (ap (map items) c.deref-link-items.ensures.value ∙ c.in_ok-links.ensures tells)
