use Rattle.std.proofs.Common.{arith, ◌-◌}
use Rattle.hwdb_forms.specs.Internal.{form_of, views}
use Rattle.hwdb_forms.proofs.TextLemmas.{among_begun, among_next}
use Rattle.hwdb_forms.proofs.texts.text_among.Goals as goal

pub loop-at-init : goal.loop-at-init
loop-at-init c = record {
  within = omega arith;
  done = among_begun _ form_of c.args.forms.now (views c.args.tokens.now);
}

pub loop-at-preserved : goal.loop-at-preserved
loop-at-preserved c = record {
  within = omega arith;
  done = among_next _ form_of c.args.forms.now (views c.args.tokens.now) _ _ _ (c.loop-at.at - 1) c.loop-at.at _ (omega arith) (omega arith) c.in_ok-text.ensures c.shorter-found.ensures c.loop-at.invariant.done;
}
