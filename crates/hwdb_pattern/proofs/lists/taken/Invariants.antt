use Rattle.std.proofs.Common.{◌≡◌, take}
use Rattle.hwdb_spec.specs.Patterns.{token_at}
use Rattle.hwdb_pattern.specs.Internal.Prefixes.{stepped}
use Rattle.hwdb_pattern.proofs.lists.taken.Given as goal

abbrev pub invariant-loop-n : goal.invariant-loop-n
invariant-loop-n l = l.after.items ≡ stepped (token_at l.text) l.device (take l.n-index l.before)
