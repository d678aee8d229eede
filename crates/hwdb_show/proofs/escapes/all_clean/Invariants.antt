use Rattle.std.proofs.Common.{◌≡◌, take}
use Rattle.std.specs.List.{list_all}
use Rattle.hwdb_show.specs.Escapes.{is_clean}
use Rattle.hwdb_show.proofs.escapes.all_clean.Given as goal

abbrev pub invariant-loop-byte : goal.invariant-loop-byte
invariant-loop-byte l = l.clean ≡ list_all is_clean (take l.byte-index l.text)
