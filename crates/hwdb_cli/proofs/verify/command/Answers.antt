use Rattle.hwdb_cli.proofs.verify.command.Goals as goal

pub returns : goal.returns
returns c = c.with_argument.ensures _ _ (c.with_argument-with_text.ensures _ _ c.shared-command.ensures c.text_option.ensures) c.database_argument.ensures
