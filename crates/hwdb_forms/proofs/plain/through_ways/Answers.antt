use Rattle.std.proofs.Common.{arith, map}
use Rattle.hwdb_spec.specs.Patterns.{tokens}
use Rattle.hwdb_forms.specs.Internal.{piece_of}
use Rattle.hwdb_forms.proofs.PlainLemmas.{field_through}
use Rattle.hwdb_forms.proofs.plain.through_ways.Goals as goal

pub returns-then-goes_on : goal.returns-then-goes_on
returns-then-goes_on c = record {
  within = c.in-Some.ensures.within;
  cut = c.in-Some.ensures.cut;
  through = field_through _ (λ way. map piece_of way.now) c.args.field.now c.loop-way.way-index _ (tokens c.args.text.now) c.in-Some.taken (omega arith) c.in-Some.ensures.through;
}
