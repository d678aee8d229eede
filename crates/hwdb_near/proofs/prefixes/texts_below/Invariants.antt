use Rattle.std.proofs.Common.{◌≡◌, filter, map, take}
use Rattle.hwdb_spec_commands.specs.NearPrefixes.{has_prefix}
use Rattle.hwdb_near.proofs.prefixes.texts_below.Given as goal

abbrev pub invariant-loop-text : goal.invariant-loop-text
invariant-loop-text l = map (λ t. t.now) l.kept.items ≡ filter (has_prefix l.prefix) (map (λ t. t.now) (take l.text-index l.texts))
