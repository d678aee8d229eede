use Rattle.std.proofs.Common.{ap, ◌∙◌}
use Rattle.hwdb_spec_commands.specs.Sides.{file_name}
use Rattle.hwdb_tool.proofs.SideReadLemmas.{name_after, name_alone}
use Rattle.hwdb_tool.proofs.sides.after_slash.Goals as goal

pub returns-in-Some-clause-name : goal.returns-in-Some-clause-name
returns-in-Some-clause-name c = ap file_name c.in-Some.ensures.parts ∙ name_after c.in-Some.parts.0.now c.in-Some.parts.1.now

pub returns-in-None-clause-alone : goal.returns-in-None-clause-alone
returns-in-None-clause-alone c = name_alone c.args.path.now c.in-None.ensures.none
