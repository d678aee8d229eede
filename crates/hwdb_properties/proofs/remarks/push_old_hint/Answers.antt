use Rattle.std.proofs.Common.{◌∙◌, ap, codes}
use Rattle.hwdb_spec_commands.specs.Properties.{after_word}
use Rattle.hwdb_properties.proofs.PieceLemmas.{two_pieces}
use Rattle.hwdb_properties.proofs.remarks.push_old_hint.Goals as goal

pub returns : goal.returns
returns c =
    two_pieces c.args.text.now.items _ _ (codes "this came for it: ") _ _ c.in_ok-extend_from_slice.ensures.items
    c.in_ok-extend_from_slice-2.ensures.items (c.after_word.ensures ∙ ap after_word c.old_row.ensures)
