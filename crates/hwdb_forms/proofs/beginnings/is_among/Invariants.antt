use Rattle.std.proofs.Common.{◌≡◌, drop, map}
use Rattle.std.specs.List.{list_any}
use Rattle.hwdb_spec.specs.Folders.{same}
use Rattle.hwdb_forms.proofs.beginnings.is_among.Given as goal

abbrev pub invariant-loop-prefix : goal.invariant-loop-prefix
invariant-loop-prefix l =
    list_any (same l.text) (map (λ p. p.now) (drop l.prefix-index l.some)) ≡ list_any (same l.text) (map (λ p. p.now) l.some)
