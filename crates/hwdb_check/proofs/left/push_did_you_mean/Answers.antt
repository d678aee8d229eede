use Rattle.hwdb_check.proofs.AllowedLemmas.{three_pieces}
use Rattle.hwdb_check.proofs.left.push_did_you_mean.Goals as goal

pub returns : goal.returns
returns c =
    three_pieces c.args.text.now.items _ _ _ _ c.args.name.now _ c.in_ok-extend_from_slice.ensures.items c.in_ok-extend_from_slice-2.ensures.items c.in_ok-push.ensures.items
