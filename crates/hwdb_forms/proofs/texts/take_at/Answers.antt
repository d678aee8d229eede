use Rattle.std.proofs.Common.{ap, ◌∙◌}
use Rattle.std.proofs.Math.ListN.{set}
use Rattle.std.proofs.lemmas.List.{map-set}
use Rattle.hwdb_forms.specs.TextViews.{row_view, text_view}
use Rattle.hwdb_forms.proofs.texts.take_at.Goals as goal

pub returns-clause-row : goal.returns-clause-row
returns-clause-row c =
    map-set text_view c.args.row.now.items c.args.at c.take.new.self ∙ ap (λ x. set (row_view c.args.row.now.items) c.args.at (text_view x)) c.take.ensures.after
