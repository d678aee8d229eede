use Rattle.std.proofs.Common.{arith}
use Rattle.std.proofs.lemmas.List.{take_rest}
use Rattle.hwdb_spec.specs.Patterns.{tokens}
use Rattle.hwdb_forms.proofs.PlainLemmas.{counted_partly, counted_stays, counted_whole, cut_first}
use Rattle.hwdb_forms.proofs.plain.through_counted.Goals as goal

pub returns-then-starts_star : goal.returns-then-starts_star
returns-then-starts_star c = record {
  within = omega arith;
  cut = cut_first c.args.text.now;
  through = counted_stays c.args.set c.args.count (tokens c.args.text.now) _ (c.starts_star.ensures.star c.if-starts_star.true);
}

pub returns-then-taken-count : goal.returns-then-taken-count
returns-then-taken-count c = record {
  within = c.count_plain-taken.ensures.within;
  cut = c.count_plain-taken.ensures.cut;
  through = counted_whole c.args.set c.args.count c.count_plain-taken.result (tokens c.args.text.now) c.if-taken-count.true c.count_plain-taken.ensures.passed;
}

pub returns-then-is_lone_star : goal.returns-then-is_lone_star
returns-then-is_lone_star c = record {
  within = c.count_plain-taken.ensures.within;
  cut = c.count_plain-taken.ensures.cut;
  through = counted_partly c.args.set c.args.count c.count_plain-taken.result c.args.text.now _ c.count_plain-taken.ensures.most (take_rest c.args.text.now c.count_plain-taken.result)
      c.count_plain-taken.ensures.passed c.count_plain-taken.ensures.cut (c.is_lone_star.ensures c.if-is_lone_star.true);
}
