use Rattle.std.proofs.Common.{◌∷◌, ◌∙◌, [], sym}
use Rattle.hwdb_spec.specs.Patterns.{literal, star}
use Rattle.hwdb_forms.proofs.walks.bytes_along.Goals as goal

pub returns-then-is_dead_at_once : goal.returns-then-is_dead_at_once
returns-then-is_dead_at_once c = λ b h. c.no_bytes.ensures b ∙ sym (c.is_dead_at_once.ensures c.if-is_dead_at_once.true (literal b ∷ star ∷ []))

pub returns : goal.returns
returns c = λ b h. let k = c.bytes_at.ensures b h in let e = c.deref.ensures.value in let m = c.in_ok-steps.ensures.met (literal b ∷ star ∷ []) in cc
