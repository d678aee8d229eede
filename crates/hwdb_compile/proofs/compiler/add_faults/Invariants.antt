use Rattle.std.proofs.Common.{◌≡◌, ◌++◌, map, take}
use Rattle.hwdb_spec.specs.Folders.{fault_in}
use Rattle.hwdb_compile.specs.Views.{fault_of}
use Rattle.hwdb_compile.proofs.compiler.add_faults.Given as goal

abbrev pub invariant-loop-fault : goal.invariant-loop-fault
invariant-loop-fault l = map fault_of l.faults.items ≡ map fault_of l.fn.faults.items ++ map (fault_in l.path) (take l.fault-index l.found)
