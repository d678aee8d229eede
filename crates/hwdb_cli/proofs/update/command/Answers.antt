use Rattle.hwdb_cli.proofs.update.command.Goals as goal

pub returns : goal.returns
returns c =
    c.with_argument.ensures _ _ (c.with_argument-with_skip.ensures _ _ (c.with_argument-with_verbose.ensures _ _ c.shared-command.ensures c.flag.ensures) c.flag-2.ensures) c.flag-3.ensures
