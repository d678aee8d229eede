use Rattle.std.proofs.Common.{◌∙◌, sym}
use Rattle.hwdb_device.proofs.NearestLemmas.{parted}
use Rattle.hwdb_device.proofs.nearest.push_part.Goals as goal

pub returns : goal.returns
returns c =
    parted c.args.text.now.items c.extend_from_slice.new.self.items c.extend_from_slice-2.new.self.items c.args.reports.now (sym c.is_empty.ensures ∙ c.if-is_empty.false)
    c.in_ok-extend_from_slice.ensures.items c.in_ok-extend_from_slice-2.ensures.items
