use Rattle.hwdb_cli.proofs.near.command.Goals as goal

pub returns : goal.returns
returns c = c.with_argument.ensures _ _ (c.with_argument-with_json.ensures _ _ (c.with_argument-with_text.ensures _ _ (c.with_argument-with_limit.ensures _ _ c.shared-command.ensures c.limit_option.ensures) c.text_option.ensures) c.json_option.ensures) c.needed_word-words.ensures
