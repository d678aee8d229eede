use Rattle.std.proofs.Common.{◌≡◌, not}
use Rattle.std.specs.List.{list_any}
use Rattle.hwdb_spec.specs.Lines.{is, is_none, pieces}
use Rattle.hwdb_text.specs.PiecesLeft.{lines_left}
use Rattle.hwdb_spec_commands.specs.AllowedKinds.{allowed_text}
use Rattle.hwdb_check.proofs.allowed.any_line_allowed.Given as goal

abbrev pub invariant-loop-text : goal.invariant-loop-text
invariant-loop-text l =
    list_any (λ text. not (is_none (allowed_text text))) (lines_left l.text-iterator) ≡ list_any (λ text. not (is_none (allowed_text text))) (pieces (is 10) l.bytes)
