use Rattle.hwdb_forms.specs.TextViews.{row_view}
use Rattle.hwdb_forms.proofs.TextLemmas.{either_put}
use Rattle.hwdb_forms.proofs.texts.put_either.Goals as goal

pub returns-clause-row : goal.returns-clause-row
returns-clause-row c =
    either_put (row_view c.args.row.now.items) (row_view c.args.other.now.items) _ _ c.args.at _ _ _
    c.take_at-first.ensures.row c.put.ensures.row c.shorter.ensures c.take_at-first.ensures.text c.take_at-second.ensures.text
