use Rattle.hwdb_cli.proofs.diff.command.Goals as goal

pub returns : goal.returns
returns c =
    let with_devices = c.with_argument-with_devices.ensures _ _ c.shared-command.ensures c.devices_option.ensures in
    let with_samples = c.with_argument-with_samples.ensures _ _ with_devices c.flag.ensures in
    let with_options = c.with_review-with_options.ensures _ with_samples in
    c.with_argument.ensures _ _ (c.with_argument-with_old.ensures _ _ with_options c.needed_word-old.ensures) c.needed_word-new.ensures
