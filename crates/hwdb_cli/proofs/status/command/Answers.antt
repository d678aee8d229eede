use Rattle.hwdb_cli.proofs.status.command.Goals as goal

pub returns : goal.returns
returns c = c.with_argument.ensures _ _ c.shared-command.ensures c.json_option.ensures
