use Rattle.std.proofs.Common.{◌≡◌, ap, sym, ◌∙◌, length, refl}
use Rattle.hwdb_spec.specs.Patterns.{item_at, class_text, class_spans}
use Rattle.hwdb_pattern.specs.Internal.Parts.{items, items_part}
use Rattle.hwdb_pattern.proofs.BracketLemmas.{item_class, item_plain}
use Rattle.hwdb_pattern.proofs.brackets.item.Goals as goal

pub returns-in-Some-clause-part : goal.returns-in-Some-clause-part
returns-in-Some-clause-part c =
    let e : item_at c.args.text.now ≡ items (length (class_text c.in-Some.class)) (class_spans c.in-Some.class) =
    item_class c.args.text.now c.in-Some.class (sym c.named_class.ensures.class ∙ c.in-Some.is) in
    simp (e, c.text_of.ensures, c.holds.ensures) refl

pub returns-in-Some-clause-within : goal.returns-in-Some-clause-within
returns-in-Some-clause-within c = simp (c.text_of.ensures) c.in-Some.ensures.within

pub returns-clause-part : goal.returns-clause-part
returns-clause-part c = c.plain_item.ensures.part ∙ ap (items_part c.args.byte) (sym (item_plain c.args.text.now (sym c.named_class.ensures.class ∙ c.in_default.is)))
