use Rattle.std.proofs.Common.{◌≡◌, drop, map}
use Rattle.std.specs.List.{list_any}
use Rattle.hwdb_spec.specs.Folders.{same}
use Rattle.hwdb_exports.proofs.lines.has_line.Given as goal

abbrev pub invariant-loop-line : goal.invariant-loop-line
invariant-loop-line l = list_any (same l.wanted) (map (λ t. t.now) (drop l.line-index l.lines)) ≡ list_any (same l.wanted) (map (λ t. t.now) l.lines)
