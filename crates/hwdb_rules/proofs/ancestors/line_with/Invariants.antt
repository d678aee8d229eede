use Rattle.std.proofs.Common.{◌≡◌, find, nat_eq}
use Rattle.std.specs.List.{starts_with}
use Rattle.hwdb_spec_commands.specs.Sysfs.{line_with}
use Rattle.hwdb_text.specs.PiecesLeft.{lines_left}
use Rattle.hwdb_rules.proofs.ancestors.line_with.Given as goal

abbrev pub invariant-loop-line : goal.invariant-loop-line
invariant-loop-line l = find (λ line. starts_with nat_eq line l.start) (lines_left l.line-iterator) ≡ line_with l.start l.text
