use Rattle.std.specs.Prelude.{codes}
use Rattle.hwdb_properties.proofs.remarks.push_axis_code.Goals as goal
use Rattle.hwdb_spec.specs.Lemmas.Lists.{three_pieces}

pub returns : goal.returns
returns c =
    three_pieces c.args.text.now.items _ _ _ (codes "evtest shows the code in decimal: write ") _ _ c.in_ok-extend_from_slice.ensures.items
    c.in_ok-extend_from_slice-2.ensures.items c.in_ok-extend_from_slice-3.ensures.items
