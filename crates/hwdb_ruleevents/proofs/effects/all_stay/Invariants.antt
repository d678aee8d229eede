use Rattle.std.proofs.Common.{◌≡◌, drop}
use Rattle.hwdb_ruleevents.specs.Effects
use Rattle.hwdb_ruleevents.proofs.effects.all_stay.Given as goal

abbrev pub invariant-loop-byte : goal.invariant-loop-byte
invariant-loop-byte l = Effects.all_stay (drop l.byte-index l.text) ≡ Effects.all_stay l.text
