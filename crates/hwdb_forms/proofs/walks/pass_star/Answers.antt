use Rattle.std.proofs.Common.{◌∙◌, arith, subst}
use Rattle.hwdb_spec.specs.Patterns.{star}
use Rattle.hwdb_forms.specs.declared.steps.Step.{Step}
use Rattle.hwdb_forms.specs.Internal.{IsPlace}
use Rattle.hwdb_forms.proofs.WalkLemmas.{either_way, left_as, marked_twice, star_byte, star_end, star_many, star_one}
use Rattle.std.proofs.Common.{refl}
use Rattle.hwdb_forms.proofs.walks.pass_star.Goals as goal

pub returns-in-End-clause-left : goal.returns-in-End-clause-left
returns-in-End-clause-left c = λ ls us p.
    left_as c.args.at _ _ _ _ ls star us refl c.mark.ensures ∙ star_end ls us c.args.at c.args.now.now.items c.args.next.now.items c.requires.now (omega (arith, c.requires.now, c.requires.next)) (subst (λ (s : Step). IsPlace ls c.args.at s) c.in-End.is p)

pub returns-in-Byte-clause-left : goal.returns-in-Byte-clause-left
returns-in-Byte-clause-left c = λ ls us p.
    left_as c.args.at _ _ _ _ ls star us c.mark-in-Byte.ensures c.mark-in-Byte-2.ensures
    ∙ star_byte ls us c.args.at c.args.now.now.items c.args.next.now.items c.requires.now (omega (arith, c.requires.now, c.requires.next)) _ _ (subst (λ (s : Step). IsPlace ls c.args.at s) c.in-Byte.is p)

pub returns-in-One-clause-left : goal.returns-in-One-clause-left
returns-in-One-clause-left c = λ ls us p.
    left_as c.args.at _ _ _ _ ls star us c.mark-in-One.ensures c.mark-in-One-2.ensures
    ∙ star_one ls us c.args.at c.args.now.now.items c.args.next.now.items c.requires.now (omega (arith, c.requires.now, c.requires.next)) _ _ (subst (λ (s : Step). IsPlace ls c.args.at s) c.in-One.is p)

pub returns-in-Many-clause-left : goal.returns-in-Many-clause-left
returns-in-Many-clause-left c = λ ls us p.
    left_as c.args.at _ _ _ _ ls star us c.mark-in-Many.ensures c.mark-in-Many-2.ensures
    ∙ star_many ls us c.args.at c.args.now.now.items c.args.next.now.items c.requires.now (omega (arith, c.requires.now, c.requires.next)) _ _ (subst (λ (s : Step). IsPlace ls c.args.at s) c.in-Many.is p)

pub returns-in-Either-clause-left : goal.returns-in-Either-clause-left
returns-in-Either-clause-left c = λ ls us p.
    left_as c.args.at _ _ _ _ ls star us (marked_twice c.args.now.now.items _ _ _ _ c.args.at c.mark-in-Either.ensures c.mark-in-Either-2.ensures) refl
    ∙ either_way ls star us c.args.at c.args.now.now.items c.args.next.now.items c.requires.now (omega (arith, c.requires.now, c.requires.next)) _ _ (subst (λ (s : Step). IsPlace ls c.args.at s) c.in-Either.is p)
