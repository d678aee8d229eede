use Rattle.std.proofs.Common.{◌∙◌, sym}
use Rattle.hwdb_text.specs.PiecesLeft.{lines_left}
use Rattle.hwdb_check.specs.Leaving.{all_names}
use Rattle.hwdb_check.proofs.AllowedLemmas.{to_end_all, to_end_last, to_end_step}
use Rattle.hwdb_check.proofs.allowed.to_end.Goals as goal

pub returns-then-ends_record : goal.returns-then-ends_record
returns-then-ends_record c =
    to_end_last (all_names c.loop-text.own.items) (all_names c.put_allowed.new.allowed.items) _ (lines_left c.loop-text.text-iterator) c.in-Some.text.now (lines_left c.next.new.self)
    c.in-Some.ensures.steps c.in_ok-put_allowed.ensures (sym c.ends_record.ensures ∙ c.if-ends_record.true) c.loop-text.invariant

pub loop-text-preserved : goal.loop-text-preserved
loop-text-preserved c =
    to_end_step (all_names c.loop-text.own.items) (all_names c.put_allowed.new.allowed.items) _ (lines_left c.loop-text.text-iterator) c.in-Some.text.now (lines_left c.next.new.self)
    c.in-Some.ensures.steps c.in_ok-put_allowed.ensures (sym c.ends_record.ensures ∙ c.if-ends_record.false) c.loop-text.invariant

pub returns : goal.returns
returns c = to_end_all (all_names c.loop-text.own.items) _ (lines_left c.loop-text.text-iterator) c.in-None.ensures.steps.0 c.loop-text.invariant
