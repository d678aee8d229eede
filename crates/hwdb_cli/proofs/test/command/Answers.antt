use Rattle.hwdb_cli.proofs.test.command.Goals as goal

pub returns : goal.returns
returns c =
    let with_record = c.with_argument-with_record.ensures _ _ c.shared-command.ensures c.flag.ensures in
    let with_database = c.with_argument-with_database.ensures _ _ with_record c.database_option.ensures in
    let with_text = c.with_argument-with_text.ensures _ _ with_database c.text_option.ensures in
    c.with_argument.ensures _ _ (c.with_argument-with_json.ensures _ _ with_text c.json_option.ensures) c.needed_word-files.ensures
