use Rattle.std.proofs.Common.{◌∙◌, Global, Option, Vec, ap, map, sym, ℕ}
use Rattle.std.specs.Prelude.{option_map}
use Rattle.hwdb_check.proofs.BaselineLemmas.{empty_line, is_empty_none, is_some_none, marked_line, wrong_line}
use Rattle.hwdb_check.proofs.baselines.put_line_mark.Goals as goal

pub returns-then-is_empty-clause-marked : goal.returns-then-is_empty-clause-marked
returns-then-is_empty-clause-marked c = λ rest.
    empty_line (map (λ t. t.items) c.args.marks.now.items) c.args.number c.args.text.now rest
    (is_empty_none c.args.text.now (sym c.is_empty.ensures ∙ c.if-is_empty.true))

pub returns-in_default-clause-wrong : goal.returns-in_default-clause-wrong
returns-in_default-clause-wrong c = λ rest.
    wrong_line (map (λ t. t.items) c.args.marks.now.items) c.args.number c.args.text.now rest
    (is_some_none c.args.text.now (sym c.is_empty.ensures ∙ c.if-is_empty.false))
    (sym c.in_ok-mark.ensures ∙ ap (λ (o : Option (Vec ℕ Global)). option_map (λ t. t.items) o) c.in_default.is)

pub returns-clause-marked : goal.returns-clause-marked
returns-clause-marked c = λ rest.
    marked_line (map (λ t. t.items) c.args.marks.now.items) c.args.number c.args.text.now rest c.in-Some.mark.items _
    (is_some_none c.args.text.now (sym c.is_empty.ensures ∙ c.if-is_empty.false))
    (sym c.in_ok-mark.ensures ∙ ap (λ (o : Option (Vec ℕ Global)). option_map (λ t. t.items) o) c.in-Some.is) c.in_ok-keep.ensures
