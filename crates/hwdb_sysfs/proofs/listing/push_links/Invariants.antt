use Rattle.std.proofs.Common.{◌≡◌, ◌++◌, map, take}
use Rattle.hwdb_spec.specs.Store.{path_in}
use Rattle.hwdb_sysfs.proofs.listing.push_links.Given as goal

abbrev pub invariant-loop-name : goal.invariant-loop-name
invariant-loop-name g l = map (λ p. p.items) l.links.items
    ≡ map (λ p. p.items) l.fn.links.items ++ map (λ n. path_in l.folder n.items) (take l.name-index l.name-items)
