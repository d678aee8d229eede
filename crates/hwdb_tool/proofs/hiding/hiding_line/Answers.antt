use Rattle.std.proofs.Common.{codes, false, true}
use Rattle.hwdb_spec_commands.specs.Asked.{database_path}
use Rattle.hwdb_spec.specs.Visible.{shown_name}
use Rattle.hwdb_tool.proofs.ProgressLemmas.{four_names}
use Rattle.hwdb_tool.proofs.hiding.hiding_line.Goals as goal

pub returns : goal.returns
returns c =
    four_names (shown_name (database_path false c.args.root.now)) (codes " hides ") (shown_name (database_path true c.args.root.now)) (codes ": it is asked first\n") _ _ _ _ _
    c.new-line.ensures.items c.in_ok-push_path.ensures c.in_ok-extend_from_slice.ensures.items c.in_ok-push_path-2.ensures c.in_ok-extend_from_slice-2.ensures.items
