use Rattle.std.proofs.Common.{◌∙◌, sym}
use Rattle.hwdb_properties.proofs.SkipLemmas.{rows_left}
use Rattle.hwdb_properties.proofs.rows.rows_from.Goals as goal

pub returns : goal.returns
returns c =
    rows_left c.args.one c.args.other c.args.table.now c.next_of.result (sym c.begins_with.ensures ∙ c.if-begins_with.false) (sym c.begins_with-2.ensures ∙ c.if-begins_with-2.false)
    c.next_of.ensures.one c.next_of.ensures.other
