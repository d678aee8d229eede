use Rattle.std.proofs.Common.{◌≡◌, ◌++◌, List, ap, map, ℕ, ◌∙◌}
use Rattle.hwdb_spec_commands.specs.DeviceTree.{names_in}
use Rattle.hwdb_spec.specs.Store.{path_in}
use Rattle.hwdb_spec_commands.specs.SysfsAnswers.{seen}
use Rattle.hwdb_sysfs.proofs.LinkLemmas.{named_all}
use Rattle.hwdb_sysfs.proofs.finding.push_classes.Goals as goal
use Rattle.hwdb_sysfs.specs.Lemmas.Names.{items}

pub returns : goal.returns
returns g c = λ tells.
    let sight = seen (g.F.DeviceFiles.answers c.args.files.now) in
    let folder = c.in_ok-classes.classes.items in
    let are : map items c.deref-class-items.result.now ≡ names_in sight folder =
    ap (map items) c.deref-class-items.ensures.value ∙ c.in_ok-names.ensures tells ∙ ap (names_in sight) c.deref.ensures.value in
    named_all (path_in folder) c.deref-class-items.result.now _ _ _ _ c.loop-class-test.false c.loop-class.invariant are
    ∙ ap (λ (f : List ℕ). map items c.args.folders.now.items ++ map (path_in f) (names_in sight f)) c.in_ok-classes.ensures
