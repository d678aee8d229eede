use Rattle.std.proofs.Common.{◌≡◌, length}
use Rattle.hwdb_spec_commands.specs.KeysAsked.{has_part}
use Rattle.hwdb_properties.proofs.keys.has_part.Given as goal

abbrev pub invariant-loop-more : goal.invariant-loop-more
invariant-loop-more l = has_part l.part l.rest ≡ has_part l.part l.text

abbrev pub decreases-loop-more : goal.decreases-loop-more
decreases-loop-more l = length l.rest
