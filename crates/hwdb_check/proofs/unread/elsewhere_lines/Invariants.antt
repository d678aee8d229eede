use Rattle.std.proofs.Common.{◌≡◌, map, take}
use Rattle.hwdb_spec_commands.specs.Surroundings.{is_elsewhere}
use Rattle.hwdb_text.specs.Views.{given_in}
use Rattle.hwdb_check.specs.Internal.{IsPlace, lines_where, own}
use Rattle.hwdb_check.proofs.unread.elsewhere_lines.Given as goal

abbrev pub invariant-loop-given : goal.invariant-loop-given
invariant-loop-given l = record {
  lines : l.lines.items ≡ lines_where is_elsewhere (map (given_in own) (take l.given-index l.all));
  last : IsPlace l.last;
}
