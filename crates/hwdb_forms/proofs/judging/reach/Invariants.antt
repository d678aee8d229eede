use Rattle.std.proofs.Common.{◌≡◌, drop, map, take}
use Rattle.hwdb_spec.specs.Forms.{can_match}
use Rattle.hwdb_forms.specs.Internal.{IsFront, form_of, views}
use Rattle.hwdb_forms.proofs.judging.reach.Given as goal

abbrev pub invariant-loop-form : goal.invariant-loop-form
invariant-loop-form l = record {
  front : IsFront (map form_of (take l.form-index l.forms)) (views l.tokens) l.low;
  met : can_match (map form_of (drop l.form-index l.forms)) (views l.tokens) ≡ can_match (map form_of l.forms) (views l.tokens);
}
