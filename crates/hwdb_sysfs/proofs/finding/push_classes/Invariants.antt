use Rattle.std.proofs.Common.{◌≡◌, ◌++◌, map, take}
use Rattle.hwdb_spec.specs.Store.{path_in}
use Rattle.hwdb_sysfs.proofs.finding.push_classes.Given as goal

abbrev pub invariant-loop-class : goal.invariant-loop-class
invariant-loop-class g l = map (λ p. p.items) l.folders.items
    ≡ map (λ p. p.items) l.fn.folders.items ++ map (λ n. path_in l.classes.items n.items) (take l.class-index l.class-items)
