use Rattle.std.proofs.Common.{◌≡◌, ◌∙◌, ap, map, subst, sym, List}
use Rattle.hwdb_spec.specs.Forms.{Form}
use Rattle.hwdb_forms.specs.Internal.{Every, HasWays, form_of, forms_of, views}
use Rattle.hwdb_forms.proofs.AfterLemmas.{bytes_told, table_ways}
use Rattle.hwdb_forms.proofs.expecting.bytes_after.Goals as goal

pub bytes_among-requires : goal.bytes_among-requires
bytes_among-requires c =
    subst (λ (forms : List Form). Every Form HasWays forms) (sym (ap (map form_of) c.deref.ensures.value ∙ c.in_ok-forms.ensures)) (table_ways c.args.known.now.table)

pub returns : goal.returns
returns c =
    bytes_told c.closed_bracket_stays.ensures c.tokens_are_the_pattern.ensures (map form_of c.in_ok-forms.forms.items) (forms_of c.args.known.now.table) c.args.front.now (views c.args.known.now.tokens.items) c.in_ok-bytes.bytes
    c.in_ok-forms.ensures c.requires.same (λ b h. let e = c.in_ok-bytes.ensures b h in let k = c.deref.ensures.value in let m = c.deref-2.ensures.value in cc)
