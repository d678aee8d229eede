use Rattle.std.proofs.Common.{◌≡◌, ◌++◌, take, map}
use Rattle.std.specs.Prelude.{flat_map}
use Rattle.hwdb_spec_commands.specs.Near.{near_report}
use Rattle.hwdb_near.specs.Internal.Ratings.{rated_of}
use Rattle.hwdb_near.proofs.reports.push_nearest.Given as goal

abbrev pub invariant-loop-near : goal.invariant-loop-near
invariant-loop-near l = l.text.items ≡ l.fn.text.items ++ flat_map (near_report l.device) (map rated_of (take l.near-index l.all))
