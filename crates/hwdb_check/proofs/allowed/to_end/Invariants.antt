use Rattle.std.proofs.Common.{◌≡◌, ◌++◌}
use Rattle.std.specs.Prelude.{flat_map}
use Rattle.hwdb_text.specs.PiecesLeft.{lines_left}
use Rattle.hwdb_spec_commands.specs.AllowedKinds.{names_in, names_to_end}
use Rattle.hwdb_check.specs.Internal.{texts}
use Rattle.hwdb_check.proofs.allowed.to_end.Given as goal

abbrev pub invariant-loop-text : goal.invariant-loop-text
invariant-loop-text l =
    flat_map names_in (texts l.own.items) ++ names_to_end (lines_left l.text-iterator) ≡ flat_map names_in (texts l.allowed) ++ names_to_end (lines_left l.lines)
