use Rattle.std.proofs.Common.{◌∙◌, sym}
use Rattle.hwdb_check.proofs.CalmLemmas.{calm_below, calm_comment, calm_empty, calm_match, calm_property, calm_spoilt}
use Rattle.hwdb_check.proofs.repeats.next_calm.Goals as goal

pub returns-then-is_empty : goal.returns-then-is_empty
returns-then-is_empty c = λ more. calm_empty c.args.after c.args.text.now more c.if-is_empty.ensures

pub returns-then-text-eq35 : goal.returns-then-text-eq35
returns-then-text-eq35 c = λ more. calm_comment c.args.after c.args.text.now more c.if-is_empty.ensures c.if-text-eq35.true

pub returns-then-holds_zero : goal.returns-then-holds_zero
returns-then-holds_zero c = λ more.
    calm_spoilt c.args.after c.args.text.now more c.if-is_empty.ensures c.if-text-eq35.false c.if-text-eq32.true (sym c.holds_zero.ensures ∙ c.if-holds_zero.true)

pub returns-then-text-eq32 : goal.returns-then-text-eq32
returns-then-text-eq32 c = λ more.
    calm_property c.args.after c.args.text.now more c.if-is_empty.ensures c.if-text-eq35.false c.if-text-eq32.true (sym c.holds_zero.ensures ∙ c.if-holds_zero.false)

pub returns-then-after : goal.returns-then-after
returns-then-after c = λ more. calm_below c.args.after c.args.text.now more c.if-is_empty.ensures c.if-text-eq35.false c.if-text-eq32.false c.if-after.true

pub returns : goal.returns
returns c = λ more. calm_match c.args.after c.args.text.now more c.if-is_empty.ensures c.if-text-eq35.false c.if-text-eq32.false c.if-after.false
