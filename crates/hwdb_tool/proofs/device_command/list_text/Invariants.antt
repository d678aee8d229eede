use Rattle.std.proofs.Common.{◌≡◌, flat_map, map, take}
use Rattle.hwdb_spec_commands.specs.DeviceAsked.{link_row}
use Rattle.hwdb_spec_commands.specs.SysfsAnswers.{sight_by}
use Rattle.hwdb_spec_program.specs.DeviceErrors.{asked_names}
use Rattle.hwdb_tool.proofs.device_command.list_text.Given as goal

abbrev pub invariant-loop-link : goal.invariant-loop-link
invariant-loop-link g l = g.F.DeviceFiles.tells → l.text.items
    ≡ flat_map (link_row (sight_by g.F.DeviceFiles.answers l.files) asked_names l.sys) (map (λ p. p.items) (take l.link-index l.link-items))
