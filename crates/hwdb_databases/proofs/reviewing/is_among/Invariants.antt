use Rattle.std.proofs.Common.{◌≡◌, drop, map, string_bytes}
use Rattle.std.specs.List.{list_any}
use Rattle.hwdb_spec.specs.Answers.{is_match}
use Rattle.hwdb_databases.proofs.reviewing.is_among.Given as goal

abbrev pub invariant-loop-own : goal.invariant-loop-own
invariant-loop-own l = list_any (λ g. is_match l.name g) (map string_bytes (drop l.own-index l.globs)) ≡ list_any (λ g. is_match l.name g) (map string_bytes l.globs)
