use Rattle.std.proofs.Common.{◌≡◌, ◌++◌, codes, map, take}
use Rattle.hwdb_spec.specs.Store.{path_in}
use Rattle.hwdb_sysfs.proofs.finding.push_buses.Given as goal

abbrev pub invariant-loop-bus : goal.invariant-loop-bus
invariant-loop-bus g l = map (λ p. p.items) l.folders.items
    ≡ map (λ p. p.items) l.fn.folders.items ++ map (λ n. path_in l.buses.items n.items ++ codes "/devices") (take l.bus-index l.bus-items)
