use Rattle.std.proofs.Common.{◌≡◌}
use Rattle.std.specs.List.{list_any}
use Rattle.hwdb_spec.specs.Lines.{is, pieces}
use Rattle.hwdb_text.specs.PiecesLeft.{pieces_left}
use Rattle.hwdb_spec_commands.specs.Fragile.{names}
use Rattle.hwdb_check.proofs.fragile.any_names.Given as goal

abbrev pub invariant-loop-part : goal.invariant-loop-part
invariant-loop-part l = list_any (names l.field) (pieces_left l.part-iterator) ≡ list_any (names l.field) (pieces (is 58) l.machine)
