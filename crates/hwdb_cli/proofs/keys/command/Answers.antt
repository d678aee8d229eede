use Rattle.hwdb_cli.proofs.keys.command.Goals as goal

pub returns : goal.returns
returns c = c.with_argument.ensures _ _ (c.with_argument-with_json.ensures _ _ c.shared-command.ensures c.json_option.ensures) c.word.ensures
