use Rattle.std.proofs.Common.{[], ◌∷◌, codes}
use Rattle.hwdb_spec.specs.Visible.{shown_name}
use Rattle.hwdb_device.proofs.EveryLemmas.{said}
use Rattle.hwdb_device.proofs.every.push_unread.Goals as goal

pub returns : goal.returns
returns c =
    said (codes "hwdb: cannot read ") (shown_name c.args.path.now) (10 ∷ []) _ _ _ _ c.in_ok-extend_from_slice.ensures.items c.in_ok-push_name.ensures c.in_ok-push.ensures.items
