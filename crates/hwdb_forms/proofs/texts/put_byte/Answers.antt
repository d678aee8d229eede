use Rattle.std.proofs.Common.{ap, arith, ◌∙◌, ◌+◌}
use Rattle.hwdb_spec.specs.Forms.{is_star}
use Rattle.hwdb_spec.specs.Patterns.{token_at}
use Rattle.hwdb_spec_commands.specs.FormTexts as spec
use Rattle.hwdb_forms.specs.TextViews.{row_view, text_view}
use Rattle.hwdb_forms.proofs.TextLemmas.{cell_put, view_there}
use Rattle.hwdb_forms.proofs.texts.put_byte.Goals as goal

pub returns-clause-row : goal.returns-clause-row
returns-clause-row c =
    cell_put (row_view c.args.row.now.items) _ _ c.args.at (λ here next. spec.byte_cell (is_star (token_at c.args.token.now)) (spec.byte_for (token_at c.args.token.now) c.args.set) here (text_view c.args.after) next) _ _ _
    c.take_at-here.ensures.row c.put.ensures.row c.in_ok-text.ensures c.take_at-here.ensures.text
    (ap text_view c.index.ensures ∙ view_there c.take_at-here.new.row.items (c.args.at + 1) _ (omega (arith, c.take_at-here.ensures.long, c.requires)))
