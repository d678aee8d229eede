use Rattle.std.proofs.Common.{◌≡◌, drop, map, nat_eq, string_bytes}
use Rattle.std.specs.List.{list_any, starts_with}
use Rattle.hwdb_databases.proofs.reviewing.begins_with_one.Given as goal

abbrev pub invariant-loop-prefix : goal.invariant-loop-prefix
invariant-loop-prefix l =
    list_any (λ p. starts_with nat_eq l.text p) (map string_bytes (drop l.prefix-index l.prefixes)) ≡ list_any (λ p. starts_with nat_eq l.text p) (map string_bytes l.prefixes)
