use Rattle.std.proofs.Common.{◌≡◌, drop}
use Rattle.std.specs.Prelude.{find}
use Rattle.hwdb_spec.specs.Patterns.{token_at}
use Rattle.hwdb_spec_commands.specs.FormTexts.{takes}
use Rattle.hwdb_forms.proofs.cells.first_of.Given as goal

abbrev pub invariant-loop-byte : goal.invariant-loop-byte
invariant-loop-byte l = find (takes (token_at l.fn.token) l.set) (drop l.byte-index l.bytes) ≡ find (takes (token_at l.fn.token) l.set) l.bytes
