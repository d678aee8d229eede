use Rattle.std.proofs.Common.{◌≡◌, filter, not, take}
use Rattle.hwdb_query.specs.Views.{pairs_bytes}
use Rattle.hwdb_spec_commands.specs.Json.{has_name}
use Rattle.hwdb_answers.proofs.json_lines.raw_of.Given as goal

abbrev pub invariant-loop-key : goal.invariant-loop-key
invariant-loop-key l = pairs_bytes l.raw.items ≡ filter (λ p. not (has_name p)) (pairs_bytes (take l.key-index l.properties))
