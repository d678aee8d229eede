use Rattle.hwdb_spec.specs.Lines.{byte}
use Rattle.hwdb_spec_commands.specs.Scans.{property_line}
use Rattle.hwdb_scan.proofs.PieceLemmas.{five}
use Rattle.hwdb_scan.proofs.keys.push_coded.Goals as goal

pub returns : goal.returns
returns c =
    five (byte " ") c.args.code.now c.args.name.now (property_line c.args.name.now c.args.code.now) _ _ _ _ _ _
    c.in_ok-extend_from_slice.ensures.items c.in_ok-push.ensures.items c.in_ok-extend_from_slice-2.ensures.items c.in_ok-push-2.ensures.items c.in_ok-push_property.ensures
