use Rattle.std.proofs.Common.{◌≡◌, ◌∙◌, subst, sym}
use Rattle.hwdb_spec_commands.specs.Properties.{first_row}
use Rattle.hwdb_properties.specs.Internal.{passes}
use Rattle.hwdb_properties.specs.declared.rows.Likeness.{Likeness}
use Rattle.hwdb_properties.specs.declared.rows.Likeness.TheVariants.{Letters, Same}
use Rattle.hwdb_properties.proofs.SkipLemmas.{letters_first, same_first}
use Rattle.hwdb_properties.proofs.rows.rows_for.Goals as goal

pub returns-in-Same : goal.returns-in-Same
returns-in-Same c =
    let name = c.args.name.now in
    subst (λ (l : Likeness). first_row (passes l name) c.rows_from.result.now ≡ first_row (passes l name) c.args.table.now) (sym c.in-Same.is)
    (c.rows_from.ensures (passes Same name) (same_first name (sym c.if-is_empty.ensures)))

pub returns-in-Letters : goal.returns-in-Letters
returns-in-Letters c =
    let name = c.args.name.now in
    subst (λ (l : Likeness). first_row (passes l name) c.rows_from-in-Letters.result.now ≡ first_row (passes l name) c.args.table.now) (sym c.in-Letters.is)
    (c.rows_from-in-Letters.ensures (passes Letters name) (letters_first name c.lower-low.result c.upper.result (sym c.if-is_empty.ensures) c.lower-low.ensures c.upper.ensures))
