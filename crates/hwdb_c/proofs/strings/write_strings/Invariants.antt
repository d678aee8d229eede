use Rattle.std.proofs.Common.{◌≡◌, take}
use Rattle.hwdb_query.specs.Views.{pairs_bytes}
use Rattle.hwdb_spec.specs.Library.{strings_of}
use Rattle.hwdb_c.proofs.strings.write_strings.Given as goal

abbrev pub invariant-loop-key : goal.invariant-loop-key
invariant-loop-key l = l.text.items ≡ strings_of (pairs_bytes (take l.key-index l.properties))
