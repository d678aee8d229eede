use Rattle.std.proofs.Common.{arith, add-one, ◌+◌}
use Rattle.hwdb_forms.proofs.PlainLemmas.{cut_any, many_done, many_more}
use Rattle.hwdb_forms.proofs.plain.many_count.Goals as goal

pub loop-at-preserved : goal.loop-at-preserved
loop-at-preserved c = record {
  within = omega arith;
  cut = cut_any c.args.set c.args.text.now c.loop-at.at (c.loop-at.at + 1) (omega arith) (add-one c.loop-at.at) (c.is_of_many.ensures c.if-not-is_of_many.false) c.loop-at.invariant.cut;
  many = many_more c.args.set c.args.text.now c.loop-at.at (c.loop-at.at + 1) (omega arith) (add-one c.loop-at.at) (c.is_of_many.ensures c.if-not-is_of_many.false) c.loop-at.invariant.many;
}

pub returns-then-is_lone_star-clause-through : goal.returns-then-is_lone_star-clause-through
returns-then-is_lone_star-clause-through c = many_done c.args.set c.args.text.now c.loop-at.at c.loop-at.invariant.cut c.loop-at.invariant.many

pub returns-then-text-at-clause-through : goal.returns-then-text-at-clause-through
returns-then-text-at-clause-through c = many_done c.args.set c.args.text.now c.loop-at.at c.loop-at.invariant.cut c.loop-at.invariant.many

pub returns-then-not-is_of_many-clause-through : goal.returns-then-not-is_of_many-clause-through
returns-then-not-is_of_many-clause-through c = many_done c.args.set c.args.text.now c.loop-at.at c.loop-at.invariant.cut c.loop-at.invariant.many

pub returns-clause-through : goal.returns-clause-through
returns-clause-through c = many_done c.args.set c.args.text.now c.loop-at.at c.loop-at.invariant.cut c.loop-at.invariant.many
