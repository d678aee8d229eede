use Rattle.std.proofs.Common.{◌≡◌, drop, nat_eq}
use Rattle.std.specs.List.{find, starts_with}
use Rattle.hwdb_spec.specs.Patterns.{class_text}
use Rattle.hwdb_pattern.specs.Internal.Parts.{class_at}
use Rattle.hwdb_pattern.proofs.classes.named_class.Given as goal

abbrev pub invariant-loop-class : goal.invariant-loop-class
invariant-loop-class l =
    find (λ c. starts_with nat_eq l.text (class_text c)) (drop l.class-index l.class-items) ≡ class_at l.text
