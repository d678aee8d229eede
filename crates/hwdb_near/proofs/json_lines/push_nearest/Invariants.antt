use Rattle.std.proofs.Common.{◌≡◌, ◌++◌, take, map}
use Rattle.std.specs.Prelude.{flat_map}
use Rattle.hwdb_spec_commands.specs.Near.{near_json_line}
use Rattle.hwdb_near.specs.Internal.Ratings.{rated_of}
use Rattle.hwdb_near.proofs.json_lines.push_nearest.Given as goal

abbrev pub invariant-loop-near : goal.invariant-loop-near
invariant-loop-near l = l.text.items ≡ l.fn.text.items ++ flat_map (near_json_line l.device) (map rated_of (take l.near-index l.all))
