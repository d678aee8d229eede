use Rattle.std.proofs.Common.{ap, sym, ◌∙◌, [], List}
use Rattle.std.proofs.lemmas.List.{append-nil}
use Rattle.hwdb_spec.specs.Forms.{meets_form}
use Rattle.hwdb_spec.specs.Patterns.{Token}
use Rattle.hwdb_forms.specs.Internal.{form_of, views}
use Rattle.hwdb_forms.proofs.FittingLemmas.{no_text}
use Rattle.hwdb_forms.proofs.texts.form_text.Goals as goal

pub returns-then-is_dead_at_once : goal.returns-then-is_dead_at_once
returns-then-is_dead_at_once c =
    no_text (form_of c.args.form) (views c.args.tokens.now)
    (ap (λ (ts : List Token). meets_form ts (form_of c.args.form)) (sym (append-nil (views c.args.tokens.now))) ∙ c.is_dead_at_once.ensures c.if-is_dead_at_once.true [])
