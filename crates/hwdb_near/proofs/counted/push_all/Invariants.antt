use Rattle.std.proofs.Common.{◌≡◌, ◌++◌, map, take}
use Rattle.hwdb_text.specs.Views.{given_in}
use Rattle.hwdb_near.specs.Views.{assignment_of, origin_of}
use Rattle.hwdb_near.proofs.counted.push_all.Given as goal

abbrev pub invariant-loop-given : goal.invariant-loop-given
invariant-loop-given l = map assignment_of l.found.items ≡ map assignment_of l.fn.found.items ++ map (given_in (origin_of l.file)) (take l.given-index l.all)
