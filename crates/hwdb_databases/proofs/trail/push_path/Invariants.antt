use Rattle.std.proofs.Common.{◌≡◌, ◌++◌, take}
use Rattle.hwdb_databases.specs.Internal.Trails.{path_in}
use Rattle.hwdb_databases.proofs.trail.push_path.Given as goal

abbrev pub invariant-loop-segment : goal.invariant-loop-segment
invariant-loop-segment l = l.text.items ≡ l.fn.text.items ++ path_in (take l.segment-index l.segments)
