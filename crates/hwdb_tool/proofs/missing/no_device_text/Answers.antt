use Rattle.std.proofs.Common.{codes}
use Rattle.hwdb_spec_commands.specs.DeviceAsked.{cause_part, near_hint}
use Rattle.hwdb_spec.specs.Visible.{shown_name}
use Rattle.hwdb_tool.proofs.DeviceLemmas.{four_pieces}
use Rattle.hwdb_tool.proofs.missing.no_device_text.Goals as goal

pub returns : goal.returns
returns c =
    four_pieces (codes "no device: ") (shown_name c.args.given.now) (codes ": ") (cause_part c.args.nowhere c.args.words.now) (near_hint c.args.near.now)
    c.in_ok-text.text.items c.push_name.new.text.items c.extend_from_slice.new.self.items c.push_cause.new.text.items c.push_hint.new.text.items
    c.in_ok-text.ensures.items c.in_ok-push_name.ensures c.in_ok-extend_from_slice.ensures.items c.in_ok-push_cause.ensures c.in_ok-push_hint.ensures
