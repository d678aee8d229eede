use Rattle.std.proofs.Common.{◌≡◌, drop, map}
use Rattle.std.specs.Prelude.{find}
use Rattle.hwdb_spec_commands.specs.FormTable.{is_near}
use Rattle.hwdb_forms.proofs.likeness.nearest.Given as goal

abbrev pub invariant-loop-prefix : goal.invariant-loop-prefix
invariant-loop-prefix l =
    find (is_near l.exact l.text) (map (λ p. p.now) (drop l.prefix-index l.prefixes)) ≡ find (is_near l.exact l.text) (map (λ p. p.now) l.prefixes)
