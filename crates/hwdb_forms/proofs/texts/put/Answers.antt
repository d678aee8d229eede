use Rattle.std.proofs.lemmas.List.{map-set}
use Rattle.hwdb_forms.specs.TextViews.{text_view}
use Rattle.hwdb_forms.proofs.texts.put.Goals as goal

pub returns-clause-row : goal.returns-clause-row
returns-clause-row c = map-set text_view c.args.row.now.items c.args.at c.args.text
