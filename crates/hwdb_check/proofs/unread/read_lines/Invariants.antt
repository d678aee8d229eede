use Rattle.std.proofs.Common.{◌≡◌, map, take}
use Rattle.hwdb_text.specs.Views.{given_in}
use Rattle.hwdb_check.specs.Internal.{IsPlace, is_read_there, lines_where, own}
use Rattle.hwdb_check.proofs.unread.read_lines.Given as goal

abbrev pub invariant-loop-given : goal.invariant-loop-given
invariant-loop-given l = record {
  lines : l.lines.items ≡ lines_where (is_read_there l.elsewhere) (map (given_in own) (take l.given-index l.all));
  last : IsPlace l.last;
}
