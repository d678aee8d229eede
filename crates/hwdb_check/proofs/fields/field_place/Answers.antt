use Rattle.std.proofs.Common.{◌∙◌, ◌+◌, Bool, ℕ, List, ap, arith, codes, drop, if◌then◌else◌, nat_eq, sym, true}
use Rattle.std.specs.List.{starts_with}
use Rattle.hwdb_spec_commands.specs.Fields.{field_place, is_odd_at}
use Rattle.hwdb_check.proofs.FieldLemmas.{further}
use Rattle.hwdb_check.proofs.fields.field_place.Goals as goal

pub loop-at-preserved : goal.loop-at-preserved
loop-at-preserved c = record {
  at_in = omega (arith, c.loop-at-test.true);
  same =
      ap (λ (i : Bool). field_place i (c.loop-at.at + 1) (drop (c.loop-at.at + 1) c.args.pattern.now))
      (c.is_inside-inside.ensures ∙ ap (λ (t : List ℕ). if c.loop-at.inside then true else starts_with nat_eq t (codes "dmi:")) c.rest_of-in-loop-at.ensures)
      ∙ further c.loop-at.inside c.loop-at.at c.args.pattern.now (omega (arith, c.loop-at-test.true))
      (ap (is_odd_at c.loop-at.inside) (sym c.rest_of.ensures) ∙ sym c.is_odd_at.ensures ∙ c.if-is_odd_at.false)
      ∙ c.loop-at.invariant.same;
}
