use Rattle.std.proofs.Common.{codes, [], ◌∷◌, ◌∙◌}
use Rattle.hwdb_spec_commands.specs.DeviceTree.{kernel_name}
use Rattle.hwdb_spec.specs.Lines.{byte}
use Rattle.hwdb_tool.proofs.DeviceLemmas.{row_made}
use Rattle.hwdb_tool.proofs.device_command.push_unread_row.Goals as goal

pub returns : goal.returns
returns c =
    row_made c.args.text.now.items (kernel_name c.args.link.now) (codes "  cannot read ") c.args.path.now (byte "\n" ∷ [])
    c.extend_from_slice.new.self.items c.extend_from_slice-2.new.self.items c.extend_from_slice-3.new.self.items c.push.new.self.items c.deref.result.now
    (c.deref.ensures.value ∙ c.in_ok-name.ensures) c.in_ok-extend_from_slice.ensures.items c.in_ok-extend_from_slice-2.ensures.items
    c.in_ok-extend_from_slice-3.ensures.items c.in_ok-push.ensures.items
