use Rattle.std.proofs.Common.{◌≡◌, take}
use Rattle.std.specs.List.{list_all}
use Rattle.hwdb_spec_commands.specs.Commands.{is_bare_byte}
use Rattle.hwdb_show.proofs.words.is_bare.Given as goal

abbrev pub invariant-loop-byte : goal.invariant-loop-byte
invariant-loop-byte l = l.bare ≡ list_all is_bare_byte (take l.byte-index l.text)
