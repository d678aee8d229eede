use Rattle.hwdb_cli.proofs.check.command.Goals as goal

pub returns : goal.returns
returns c =
    let rules = c.with_argument-with_rules.ensures _ _ c.shared-command.ensures c.rules_option.ensures in
    let allow = c.with_argument-with_allow.ensures _ _ rules c.allow_option.ensures in
    let baseline = c.with_argument-with_baseline.ensures _ _ allow c.baseline_option.ensures in
    let name = c.with_argument-with_name.ensures _ _ baseline c.name_option.ensures in
    let diff = c.with_argument-with_diff.ensures _ _ name c.diff_option.ensures in
    let format = c.with_argument-with_format.ensures _ _ diff c.format_option.ensures in
    c.with_argument.ensures _ _ (c.with_argument-with_json.ensures _ _ format c.json_option.ensures) c.word.ensures
