use Rattle.hwdb_spec.specs.Tree.{Value}
use Rattle.std.proofs.Common.{List, ◌∙◌, ◌++◌, sym, ap, map, arith, append-nil}
use Rattle.hwdb_query.specs.Views.{assignment_of_answer}
use Rattle.hwdb_lookup.specs.Internal.Heads.{AreValues, own_members, value_of}
use Rattle.hwdb_lookup.proofs.ValueLemmas.{all_left, none_left, value_next, offered}
use Rattle.hwdb_lookup.proofs.PartsLemmas.{stop_given}
use Rattle.hwdb_lookup.proofs.SaidLemmas.{said_once_more}
use Rattle.hwdb_lookup.proofs.descent.collect.Goals as goal

pub loop-i-init : goal.loop-i-init
loop-i-init c = record {
  collected = λ file values m are.
      let a = all_left file c.args.node values are in
      (a.0, ap (λ r. map assignment_of_answer c.args.into.now.items ++ own_members c.args.pattern.now r) a.1);
  said = λ fit said. said;
}

pub loop-i-preserved : goal.loop-i-preserved
loop-i-preserved c = record {
  collected = λ file values m are.
      let now = c.loop-i.invariant.collected file values m are in
      let n = c.args.node in
      let pattern = c.args.pattern.now in
      let v = c.in_ok-value.field-0 in
      let next = value_next file n c.loop-i.i now.0 c.loop-i-test.true in (
        next.more,
        offered pattern _ (value_of v) _ _ _ (now.0).rest (next.more).rest values c.in_ok-shared.ensures c.in_ok-offer.ensures.collected
            (next.own pattern (value_of v) (c.in_ok-value.ensures.read file m are.head)) now.1,
      );
  said = λ fit said.
      said_once_more c.args.node c.loop-i.i c.in_ok-value.field-0 _ _ c.loop-i-test.true fit c.in_ok-value.ensures.read c.in_ok-value.ensures.sound c.in_ok-offer.ensures.offered (c.loop-i.invariant.said fit said);
}

pub returns-clause-collected : goal.returns-clause-collected
returns-clause-collected c file values m are =
    let now = c.loop-i.invariant.collected file values m are in
    let none = none_left file c.args.node c.loop-i.i c.args.pattern.now now.0 (let t = c.loop-i-test.false in omega (arith, t)) in
    sym (ap (λ l. map assignment_of_answer c.loop-i.into.items ++ l) none ∙ append-nil _) ∙ now.1

pub returns-in_err-value-clause-stop : goal.returns-in_err-value-clause-stop
returns-in_err-value-clause-stop c =
    stop_given c.args.node.known _ (λ file. (values : List Value) × AreValues file c.args.node values)
    (λ file m q. let now = c.loop-i.invariant.collected file q.0 m q.1 in ((q.1).head, (value_next file c.args.node c.loop-i.i now.0 c.loop-i-test.true).sound))
    c.in_err-value.field-0.0 c.from_residual-in_err-value.result c.from_residual-in_err-value.ensures.1 c.in_err-value.ensures.stop

pub returns-clause-said : goal.returns-clause-said
returns-clause-said c fit said = c.loop-i.invariant.said fit said
