use Rattle.std.proofs.Common.{◌≡◌, drop}
use Rattle.hwdb_ruleevents.specs.Effects
use Rattle.hwdb_ruleevents.proofs.effects.is_name.Given as goal

abbrev pub invariant-loop-byte : goal.invariant-loop-byte
invariant-loop-byte l = Effects.is_name (drop l.byte-index l.name) ≡ Effects.is_name l.name
