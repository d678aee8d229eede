use Rattle.std.proofs.Common.{◌≡◌, ◌++◌, drop, map}
use Rattle.hwdb_spec_commands.specs.FormTable.{lower}
use Rattle.hwdb_forms.proofs.likeness.in_lower.Given as goal

abbrev pub invariant-loop-byte : goal.invariant-loop-byte
invariant-loop-byte l = l.made.items ++ map lower (drop l.byte-index l.text) ≡ map lower l.text
