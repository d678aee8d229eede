use Rattle.std.proofs.Common.{◌≡◌, drop, map}
use Rattle.hwdb_spec_commands.specs.Exports as spec
use Rattle.hwdb_exports.proofs.lines.said_after.Given as goal

abbrev pub invariant-loop-line : goal.invariant-loop-line
invariant-loop-line l = spec.said_after l.start (map (λ t. t.now) (drop l.line-index l.lines)) ≡ spec.said_after l.start (map (λ t. t.now) l.lines)
