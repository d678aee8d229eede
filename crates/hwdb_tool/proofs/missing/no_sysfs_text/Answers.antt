use Rattle.std.proofs.Common.{codes}
use Rattle.hwdb_spec.specs.Visible.{shown_name}
use Rattle.hwdb_tool.proofs.DeviceLemmas.{four_pieces}
use Rattle.hwdb_tool.proofs.missing.no_sysfs_text.Goals as goal

pub returns : goal.returns
returns c =
    four_pieces (codes "no sysfs: ") (shown_name c.args.path.now) (codes ": ") c.args.words.now (codes ": mount it, or name another root")
    c.in_ok-text.text.items c.push_name.new.text.items c.extend_from_slice.new.self.items c.extend_from_slice-2.new.self.items c.extend_from_slice-3.new.self.items
    c.in_ok-text.ensures.items c.in_ok-push_name.ensures c.in_ok-extend_from_slice.ensures.items c.in_ok-extend_from_slice-2.ensures.items
    c.in_ok-extend_from_slice-3.ensures.items
