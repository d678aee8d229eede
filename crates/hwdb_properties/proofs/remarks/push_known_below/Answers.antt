use Rattle.std.proofs.Common.{codes}
use Rattle.hwdb_properties.proofs.PieceLemmas.{two_pieces}
use Rattle.hwdb_properties.proofs.remarks.push_known_below.Goals as goal

pub returns : goal.returns
returns c =
    two_pieces c.args.text.now.items _ _ (codes "below these prefixes all names are known: ") _ _ c.in_ok-extend_from_slice.ensures.items
    c.in_ok-extend_from_slice-2.ensures.items c.as_bytes.ensures.value
