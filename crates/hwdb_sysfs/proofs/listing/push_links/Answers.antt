use Rattle.std.proofs.Common.{ap, map, ◌∙◌}
use Rattle.hwdb_spec.specs.Store.{path_in}
use Rattle.hwdb_sysfs.proofs.LinkLemmas.{named_all}
use Rattle.hwdb_sysfs.proofs.listing.push_links.Goals as goal
use Rattle.hwdb_sysfs.specs.Lemmas.Names.{items}

pub returns : goal.returns
returns g c = λ tells.
    named_all (path_in c.args.folder.now) c.deref-name-items.result.now _ _ _ _ c.loop-name-test.false c.loop-name.invariant
    (ap (map items) c.deref-name-items.ensures.value ∙ c.in_ok-names.ensures tells)
