use Rattle.std.proofs.Common.{◌≡◌, ◌++◌, map, take}
use Rattle.hwdb_spec.specs.Store.{path_in}
use Rattle.hwdb_sysfs.proofs.finding.push_named.Given as goal

abbrev pub invariant-loop-folder : goal.invariant-loop-folder
invariant-loop-folder g l = map (λ p. p.items) l.paths.items
    ≡ map (λ p. p.items) l.fn.paths.items ++ map (λ f. path_in f.items l.name) (take l.folder-index l.folder-items)
