use Rattle.std.proofs.Common.{ap, sym, ◌∙◌}
use Rattle.hwdb_spec_commands.specs.Undone.{told_as}
use Rattle.hwdb_tool.proofs.diff_command.told_path.Goals as goal

pub returns-then-is_dash : goal.returns-then-is_dash
returns-then-is_dash c = ap (λ b. told_as b c.args.path.now) (sym (sym c.is_dash.ensures ∙ c.if-is_dash.true))

pub returns-else-is_dash : goal.returns-else-is_dash
returns-else-is_dash c = c.as_bytes.ensures.value ∙ ap (λ b. told_as b c.args.path.now) (sym (sym c.is_dash.ensures ∙ c.if-is_dash.false))
