use Rattle.std.proofs.Common.{◌≡◌, ◌++◌, map}
use Rattle.std.specs.Prelude.{flat_map, string_bytes}
use Rattle.hwdb_spec.specs.Lines.{is, pieces}
use Rattle.hwdb_spec_commands.specs.KeysAsked.{asked_line}
use Rattle.hwdb_text.specs.PiecesLeft.{lines_left}
use Rattle.hwdb_properties.proofs.keys.push_asked.Given as goal

abbrev pub invariant-loop-row : goal.invariant-loop-row
invariant-loop-row l =
    l.text.items ++ flat_map (asked_line l.json (map string_bytes l.words)) (lines_left l.row-iterator)
    ≡ l.fn.text.items ++ flat_map (asked_line l.json (map string_bytes l.words)) (pieces (is 10) l.table)
