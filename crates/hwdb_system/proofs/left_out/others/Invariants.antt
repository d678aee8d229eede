use Rattle.std.proofs.Common.{◌≡◌, filter, map, not, string_bytes, take, ℕ, List}
use Rattle.hwdb_spec.specs.Folders.{lists}
use Rattle.hwdb_system.specs.Internal.{IsNameSet}
use Rattle.hwdb_system.proofs.left_out.others.Given as goal

abbrev pub invariant-loop-name : goal.invariant-loop-name
invariant-loop-name l = (gone : List (List ℕ)) → IsNameSet gone l.left_out
    → map string_bytes l.kept.items ≡ filter (λ name. not (lists name gone)) (map string_bytes (take l.name-index l.names))
