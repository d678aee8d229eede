use Rattle.hwdb_cli.proofs.scan.command.Goals as goal

pub returns : goal.returns
returns c = c.with_argument.ensures _ _ (c.with_argument-with_count.ensures _ _ c.shared-command.ensures c.count_option.ensures) c.needed_word.ensures
