use Rattle.hwdb_cli.proofs.device.command.Goals as goal

pub returns : goal.returns
returns c =
    let from = c.with_argument-with_from.ensures _ _ c.shared-command.ensures c.from_option.ensures in
    let udev = c.with_argument-with_udev.ensures _ _ from c.udev_option.ensures in
    let why = c.with_argument-with_why.ensures _ _ udev c.flag.ensures in
    let text = c.with_argument-with_text.ensures _ _ why c.text_option.ensures in
    let strings = c.with_argument-with_strings.ensures _ _ text c.flag-2.ensures in
    let json = c.with_argument-with_json.ensures _ _ strings c.json_option.ensures in
    let pattern = c.with_argument-with_pattern.ensures _ _ json c.flag-3.ensures in
    c.with_argument.ensures _ _ (c.with_argument-with_all.ensures _ _ pattern c.flag-4.ensures) c.word.ensures
