use Rattle.hwdb_cli.proofs.ask.command.Goals as goal

pub returns : goal.returns
returns c = c.with_argument.ensures _ _ (c.with_argument-with_file.ensures _ _ c.shared-command.ensures c.needed_word-file.ensures) c.device_argument.ensures
