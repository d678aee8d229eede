use Rattle.std.proofs.Common.{arith}
use Rattle.std.proofs.lemmas.List.{take_rest}
use Rattle.hwdb_text.proofs.MarkLemmas.{unmarked, marked_by_zero, marked_behind, marked_kept}
use Rattle.hwdb_text.proofs.line.content_of.Goals as goal

pub returns-in_default : goal.returns-in_default
returns-in_default c = unmarked c.args.text.now c.kind_of.result (λ k h e. c.in_default.ensures k (omega arith) h e) c.kind_of.ensures

pub returns-then-text-place-eq0 : goal.returns-then-text-place-eq0
returns-then-text-place-eq0 c =
    marked_by_zero c.args.text.now c.in-Some.place (λ k h e. c.in-Some.ensures.0.before k (omega arith) h e) c.in-Some.ensures.0.high c.if-text-place-eq0.true

pub returns-in-Some-memchr : goal.returns-in-Some-memchr
returns-in-Some-memchr c =
    marked_behind c.args.text.now c.in-Some.place _ c.in-Some-memchr.field-0 (λ k h e. c.in-Some.ensures.0.before k (omega arith) h e)
    c.if-place-eq0.false (take_rest c.args.text.now c.in-Some.place) c.in-Some-memchr.ensures.0.high c.in-Some-memchr.ensures.1

pub returns-in-None : goal.returns-in-None
returns-in-None c =
    marked_kept c.args.text.now c.in-Some.place _ c.kind_of-in-None.result (λ k h e. c.in-Some.ensures.0.before k (omega arith) h e) c.in-Some.ensures.0.high
    c.in-Some.ensures.1 c.if-text-place-eq0.false c.if-place-eq0.false (take_rest c.args.text.now c.in-Some.place)
    (λ j h e. c.in-None.ensures j (omega arith) h e) c.kind_of-in-None.ensures
