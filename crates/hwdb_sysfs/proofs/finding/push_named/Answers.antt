use Rattle.std.proofs.Common.{ap, map, ◌∙◌}
use Rattle.hwdb_spec.specs.Store.{path_in}
use Rattle.hwdb_sysfs.proofs.LinkLemmas.{named_all}
use Rattle.hwdb_sysfs.proofs.finding.push_named.Goals as goal
use Rattle.hwdb_sysfs.specs.Lemmas.Names.{items}

pub returns : goal.returns
returns g c = λ tells.
    named_all (λ folder. path_in folder c.args.name.now) c.deref-folder-items.result.now _ _ _ _ c.loop-folder-test.false c.loop-folder.invariant
    (ap (map items) c.deref-folder-items.ensures.value ∙ c.in_ok-folders.ensures tells)
