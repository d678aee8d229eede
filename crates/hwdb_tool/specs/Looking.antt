-- What a lookup of devices follows.
use Rattle.std.specs.Prelude.{map, string_bytes}
use Rattle.hwdb_plan.specs.Answers.{devices_plan}
use Rattle.hwdb_plan.specs.Plans.{Plan}
use Rattle.hwdb_spec_commands.specs.Given.{is_input}
use Rattle.hwdb_tool.specs.declared.query_command.Lookup.{Lookup}

-- the plan of its devices, or of those of standard input
abbrev pub lookup_plan : Lookup → Plan
lookup_plan l = devices_plan (is_input (map string_bytes l.devices.now)) l.root.now l.form (map string_bytes l.devices.now)
