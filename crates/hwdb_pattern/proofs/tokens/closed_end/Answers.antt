use Rattle.std.proofs.Common.{◌≤◌, ◌∙◌, ◌+◌, sym, ap, arith, length, get_or, subst}
use Rattle.std.proofs.lemmas.List.{take_rest, length-drop, get_or-drop}
use Rattle.hwdb_pattern.proofs.ClosedPartLemmas.{ClosedTo, closed_start, closed_run, closed_step, closed_stops, closed_ends, closed_token, open_token, first_of_rest}
use Rattle.hwdb_pattern.proofs.tokens.closed_end.Goals as goal

pub loop-at-init : goal.loop-at-init
loop-at-init c =
    let n = c.before_bracket-at.result in
    record {
      at_in = c.before_bracket-at.ensures.within;
      here = c.before_bracket-at.ensures.here;
      closed = subst (ClosedTo c.args.text.now) (omega arith)
          (closed_run c.args.text.now 0 n (omega (arith, c.before_bracket-at.ensures.within))
          (λ k l f. c.before_bracket-at.ensures.none k l (ap (λ i. get_or c.args.text.now i 0) (omega arith) ∙ f)) (closed_start c.args.text.now));
    }

pub returns-in_default-clause-before : goal.returns-in_default-clause-before
returns-in_default-clause-before c =
    (closed_stops c.args.text.now _ c.loop-at.at (take_rest c.args.text.now c.loop-at.at) c.loop-at-test.true
    (open_token _ (first_of_rest c.args.text.now c.loop-at.at (c.loop-at.invariant.here c.loop-at-test.true)) (sym c.in_default.is ∙ c.bracket.ensures.part))
    c.loop-at.invariant.closed).0

pub returns-in_default-clause-behind : goal.returns-in_default-clause-behind
returns-in_default-clause-behind c =
    (closed_stops c.args.text.now _ c.loop-at.at (take_rest c.args.text.now c.loop-at.at) c.loop-at-test.true
    (open_token _ (first_of_rest c.args.text.now c.loop-at.at (c.loop-at.invariant.here c.loop-at-test.true)) (sym c.in_default.is ∙ c.bracket.ensures.part))
    c.loop-at.invariant.closed).1

pub loop-at-preserved : goal.loop-at-preserved
loop-at-preserved c =
    let text = c.args.text.now in
    let at = c.loop-at.at + c.in-Some.found.size in
    let n = c.before_bracket-at-in-loop-at.result in
    let own = take_rest text c.loop-at.at in
    let left = take_rest text at in
    let size : c.in-Some.found.size + c.loop-at.at ≤ length text = omega (arith, c.in-Some.ensures.within, ap length own, length-drop c.loop-at.at text) in
    let room : at + n ≤ length text = omega (arith, size, c.before_bracket-at-in-loop-at.ensures.within, ap length left, length-drop at text) in
    record {
      at_in = room;
      here = λ h. sym (get_or-drop at text n 0) ∙ ap (λ l. get_or l n 0) (sym left) ∙ c.before_bracket-at-in-loop-at.ensures.here (omega (arith, h, ap length left, length-drop at text));
      closed = closed_run text at n room
          (λ k l f. c.before_bracket-at-in-loop-at.ensures.none k l (ap (λ d. get_or d k 0) left ∙ get_or-drop at text k 0 ∙ f))
          (closed_step text _ c.loop-at.at c.in-Some.found.size own c.loop-at-test.true
          (closed_token _ c.in-Some.found (first_of_rest text c.loop-at.at (c.loop-at.invariant.here c.loop-at-test.true)) (sym c.in-Some.is ∙ c.bracket.ensures.part))
          c.loop-at.invariant.closed);
    }

pub returns-clause-before : goal.returns-clause-before
returns-clause-before c = (closed_ends c.args.text.now c.loop-at.at c.loop-at-test.false c.loop-at.invariant.closed).0

pub returns-clause-behind : goal.returns-clause-behind
returns-clause-behind c = (closed_ends c.args.text.now c.loop-at.at c.loop-at-test.false c.loop-at.invariant.closed).1
