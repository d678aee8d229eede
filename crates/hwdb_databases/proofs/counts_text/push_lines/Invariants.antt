use Rattle.std.proofs.Common.{◌≡◌, ◌++◌, flat_map, map}
use Rattle.hwdb_spec_commands.specs.ChangeCounts.{counts_line}
use Rattle.hwdb_databases.specs.Internal.Counts.{counts_shown, named_count}
use Rattle.hwdb_databases.proofs.counts_text.push_lines.Given as goal

abbrev pub invariant-loop-name : goal.invariant-loop-name
invariant-loop-name l = l.text.items ++ flat_map counts_line (map named_count l.name-iterator) ≡ l.fn.text.items ++ flat_map counts_line (counts_shown l.fn.counts)
