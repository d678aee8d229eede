use Rattle.std.proofs.Common.{codes}
use Rattle.hwdb_spec.specs.Visible.{shown_name}
use Rattle.hwdb_tool.proofs.ReportPlanLemmas.{two_pieces}
use Rattle.hwdb_tool.proofs.reported.no_export_text.Goals as goal

pub returns : goal.returns
returns c =
    two_pieces (codes "no export: ") (shown_name c.args.path.now) (codes ": 'udevadm info --export-db > report.txt' writes one") c.in_ok-text.text.items c.push_name.new.text.items c.extend_from_slice.new.self.items
    c.in_ok-text.ensures.items c.in_ok-push_name.ensures c.in_ok-extend_from_slice.ensures.items
