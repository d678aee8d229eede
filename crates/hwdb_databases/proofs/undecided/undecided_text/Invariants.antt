use Rattle.std.proofs.Common.{◌≡◌, ◌++◌, flat_map, length, map, take}
use Rattle.hwdb_spec_commands.specs.SampleDevices.{pattern_line, undecided_heading}
use Rattle.hwdb_samples.specs.Views.{own_text}
use Rattle.hwdb_databases.proofs.undecided.undecided_text.Given as goal

abbrev pub invariant-loop-pattern : goal.invariant-loop-pattern
invariant-loop-pattern l = l.text.items ≡ undecided_heading (length l.patterns) ++ flat_map pattern_line (map own_text (take l.pattern-index l.patterns))
