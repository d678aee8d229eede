use Rattle.std.proofs.Common.{◌≡◌, map, string_bytes, take}
use Rattle.hwdb_cli.proofs.matched.copies.Given as goal

abbrev pub invariant-copying : goal.invariant-copying
invariant-copying l = map string_bytes l.values.items ≡ map (λ t. t.now) (take l.text-index l.texts)
