use Rattle.std.proofs.Common.{◌≡◌, take}
use Rattle.std.specs.List.{list_all}
use Rattle.hwdb_spec.specs.Patterns.{in_span}
use Rattle.hwdb_show.proofs.visible.all_printed.Given as goal

abbrev pub invariant-loop-byte : goal.invariant-loop-byte
invariant-loop-byte l = l.printed ≡ list_all (λ b. in_span b (32, 126)) (take l.byte-index l.text)
