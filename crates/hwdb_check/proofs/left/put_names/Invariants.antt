use Rattle.std.proofs.Common.{◌≡◌, ◌++◌, not, map}
use Rattle.std.specs.Prelude.{filter, flat_map}
use Rattle.hwdb_text.specs.PiecesLeft.{pieces_left}
use Rattle.hwdb_spec_commands.specs.AllowedKinds.{is_kind, stripped, one_unknown, unknown_names}
use Rattle.hwdb_check.specs.Found.{finds}
use Rattle.hwdb_check.specs.Leaving.{file_line}
use Rattle.hwdb_check.proofs.left.put_names.Given as goal

abbrev pub invariant-loop-piece : goal.invariant-loop-piece
invariant-loop-piece l =
    let left = filter (λ n. not (is_kind n)) (map stripped (pieces_left l.piece-iterator)) in
    let names = unknown_names l.line.text.now in
    finds l.found.items ++ flat_map (one_unknown l.line.path.now (file_line l.line)) left
    ≡ finds l.fn.found.items ++ flat_map (one_unknown l.line.path.now (file_line l.line)) names
