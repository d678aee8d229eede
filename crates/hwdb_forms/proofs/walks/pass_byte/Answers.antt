use Rattle.std.proofs.Common.{◌∙◌, arith, subst}
use Rattle.hwdb_spec.specs.Patterns.{token_at}
use Rattle.hwdb_forms.specs.declared.steps.Step.{Step}
use Rattle.hwdb_forms.specs.Internal.{IsPlace}
use Rattle.hwdb_forms.proofs.WalkLemmas.{byte_met, byte_unmet, either_way, end_unmet, left_as, many_met_by, many_unmet, marked_twice, one_met_by, one_unmet}
use Rattle.std.proofs.Common.{refl}
use Rattle.hwdb_forms.proofs.walks.pass_byte.Goals as goal

pub returns-in-End-clause-left : goal.returns-in-End-clause-left
returns-in-End-clause-left c = λ ls us p. end_unmet ls (token_at c.args.text.now) us c.args.at c.args.now.now.items c.args.next.now.items c.requires.now (omega (arith, c.requires.now, c.requires.next)) c.requires.star (subst (λ (s : Step). IsPlace ls c.args.at s) c.in-End.is p)

pub returns-then-takes-clause-left : goal.returns-then-takes-clause-left
returns-then-takes-clause-left c = λ ls us p.
    left_as c.args.at _ _ _ _ ls (token_at c.args.text.now) us refl c.mark.ensures
    ∙ byte_met ls (token_at c.args.text.now) us c.args.at c.args.now.now.items c.args.next.now.items c.requires.now (omega (arith, c.requires.now, c.requires.next)) _ _ c.takes.result c.requires.star c.takes.ensures c.if-takes.true (subst (λ (s : Step). IsPlace ls c.args.at s) c.in-Byte.is p)

pub returns-else-takes-clause-left : goal.returns-else-takes-clause-left
returns-else-takes-clause-left c = λ ls us p.
    byte_unmet ls (token_at c.args.text.now) us c.args.at c.args.now.now.items c.args.next.now.items c.requires.now (omega (arith, c.requires.now, c.requires.next)) _ _ c.takes.result c.requires.star c.takes.ensures c.if-takes.false (subst (λ (s : Step). IsPlace ls c.args.at s) c.in-Byte.is p)

pub returns-then-takes-2-clause-left : goal.returns-then-takes-2-clause-left
returns-then-takes-2-clause-left c = λ ls us p.
    left_as c.args.at _ _ _ _ ls (token_at c.args.text.now) us refl c.mark-then-takes-2.ensures
    ∙ one_met_by ls (token_at c.args.text.now) us c.args.at c.args.now.now.items c.args.next.now.items c.requires.now (omega (arith, c.requires.now, c.requires.next)) _ _ c.takes-in-One.result c.requires.star c.takes-in-One.ensures c.if-takes-2.true (subst (λ (s : Step). IsPlace ls c.args.at s) c.in-One.is p)

pub returns-else-takes-2-clause-left : goal.returns-else-takes-2-clause-left
returns-else-takes-2-clause-left c = λ ls us p.
    one_unmet ls (token_at c.args.text.now) us c.args.at c.args.now.now.items c.args.next.now.items c.requires.now (omega (arith, c.requires.now, c.requires.next)) _ _ c.takes-in-One.result c.requires.star c.takes-in-One.ensures c.if-takes-2.false (subst (λ (s : Step). IsPlace ls c.args.at s) c.in-One.is p)

pub returns-then-takes-3-clause-left : goal.returns-then-takes-3-clause-left
returns-then-takes-3-clause-left c = λ ls us p.
    left_as c.args.at _ _ _ _ ls (token_at c.args.text.now) us c.mark-in-Many.ensures c.mark-then-takes-3.ensures
    ∙ many_met_by ls (token_at c.args.text.now) us c.args.at c.args.now.now.items c.args.next.now.items c.requires.now (omega (arith, c.requires.now, c.requires.next)) _ _ c.takes-in-Many.result c.requires.star c.takes-in-Many.ensures c.if-takes-3.true (subst (λ (s : Step). IsPlace ls c.args.at s) c.in-Many.is p)

pub returns-else-takes-3-clause-left : goal.returns-else-takes-3-clause-left
returns-else-takes-3-clause-left c = λ ls us p.
    left_as c.args.at _ _ _ _ ls (token_at c.args.text.now) us c.mark-in-Many.ensures refl
    ∙ many_unmet ls (token_at c.args.text.now) us c.args.at c.args.now.now.items c.args.next.now.items c.requires.now (omega (arith, c.requires.now, c.requires.next)) _ _ c.takes-in-Many.result c.requires.star c.takes-in-Many.ensures c.if-takes-3.false (subst (λ (s : Step). IsPlace ls c.args.at s) c.in-Many.is p)

pub returns-in-Either-clause-left : goal.returns-in-Either-clause-left
returns-in-Either-clause-left c = λ ls us p.
    left_as c.args.at _ _ _ _ ls (token_at c.args.text.now) us (marked_twice c.args.now.now.items _ _ _ _ c.args.at c.mark-in-Either.ensures c.mark-in-Either-2.ensures) refl
    ∙ either_way ls (token_at c.args.text.now) us c.args.at c.args.now.now.items c.args.next.now.items c.requires.now (omega (arith, c.requires.now, c.requires.next)) _ _ (subst (λ (s : Step). IsPlace ls c.args.at s) c.in-Either.is p)
