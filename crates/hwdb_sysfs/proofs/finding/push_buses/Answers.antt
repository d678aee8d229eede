use Rattle.std.proofs.Common.{◌≡◌, ◌++◌, List, ap, codes, map, ℕ, ◌∙◌}
use Rattle.hwdb_spec_commands.specs.DeviceTree.{names_in}
use Rattle.hwdb_spec.specs.Store.{path_in}
use Rattle.hwdb_spec_commands.specs.SysfsAnswers.{seen}
use Rattle.hwdb_sysfs.proofs.LinkLemmas.{named_all}
use Rattle.hwdb_sysfs.proofs.finding.push_buses.Goals as goal
use Rattle.hwdb_sysfs.specs.Lemmas.Names.{items}

pub returns : goal.returns
returns g c = λ tells.
    let sight = seen (g.F.DeviceFiles.answers c.args.files.now) in
    let folder = c.in_ok-buses.buses.items in
    let are : map items c.deref-bus-items.result.now ≡ names_in sight folder =
    ap (map items) c.deref-bus-items.ensures.value ∙ c.in_ok-names.ensures tells ∙ ap (names_in sight) c.deref.ensures.value in
    named_all (λ bus. path_in folder bus ++ codes "/devices") c.deref-bus-items.result.now _ _ _ _ c.loop-bus-test.false c.loop-bus.invariant are
    ∙ ap (λ (f : List ℕ). map items c.args.folders.now.items ++ map (λ bus. path_in f bus ++ codes "/devices") (names_in sight f)) c.in_ok-buses.ensures
