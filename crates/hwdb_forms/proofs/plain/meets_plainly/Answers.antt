use Rattle.std.proofs.Common.{ap, length, refl, sym, true, ◌∙◌}
use Rattle.std.proofs.lemmas.List.{take_rest}
use Rattle.hwdb_spec.specs.Patterns.{tokens}
use Rattle.hwdb_forms.specs.Internal.{fields_of}
use Rattle.hwdb_forms.specs.declared.leads.Passed.TheVariants.{Yes}
use Rattle.hwdb_forms.proofs.LeadLemmas.{form_yes}
use Rattle.hwdb_forms.proofs.plain.meets_plainly.Goals as goal

pub returns : goal.returns
returns c = λ met.
    sym (form_yes c.args.form.prefix.now (fields_of c.args.form.fields.now) (tokens c.args.pattern.now) _ Yes true (sym (c.begins_plainly.ensures.passed c.if-not-begins_plainly.false)) refl
    (ap tokens (take_rest c.args.pattern.now (length c.args.form.prefix.now)) ∙ c.begins_plainly.ensures.cut c.if-not-begins_plainly.false)
    (sym (c.meets_either_way.ensures met)))
