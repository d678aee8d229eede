use Rattle.std.proofs.Common.{codes}
use Rattle.hwdb_spec.specs.Visible.{shown_name}
use Rattle.hwdb_tool.proofs.ProgressLemmas.{two_names}
use Rattle.hwdb_tool.proofs.progress.push_masked.Goals as goal

pub returns : goal.returns
returns c =
    two_names c.args.text.now.items (codes " masks /usr/lib/udev/hwdb.d/") (shown_name c.args.name.now) _ _
    c.in_ok-extend_from_slice.ensures.items c.in_ok-push_name.ensures
