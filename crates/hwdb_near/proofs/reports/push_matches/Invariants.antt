use Rattle.std.proofs.Common.{◌≡◌, ◌++◌, take, map}
use Rattle.std.specs.Prelude.{flat_map}
use Rattle.hwdb_spec_commands.specs.Near.{match_report}
use Rattle.hwdb_near.specs.Views.{pattern_at}
use Rattle.hwdb_near.proofs.reports.push_matches.Given as goal

abbrev pub invariant-loop-at : goal.invariant-loop-at
invariant-loop-at l = l.text.items ≡ l.fn.text.items ++ flat_map match_report (map pattern_at (take l.at-index l.all))
