use Rattle.std.proofs.Common.{take}
use Rattle.std.proofs.lemmas.List.{map_more}
use Rattle.hwdb_spec_commands.specs.DeviceTexts.{overridden_lines}
use Rattle.hwdb_device.specs.Views.{gift_in, gifts_in}
use Rattle.hwdb_device.proofs.ListLemmas.{lines_more}
use Rattle.hwdb_device.proofs.texts.push_all_overridden.Goals as goal

pub loop-gift-preserved : goal.loop-gift-preserved
loop-gift-preserved c =
    let gifts = c.args.gifts.now in
    let i = c.loop-gift.gift-index in
    lines_more overridden_lines c.args.text.now.items c.loop-gift.text.items c.push_overridden.new.text.items (gifts_in (take i gifts)) _ _
    (map_more gift_in gifts i _ c.loop-gift-test.true) c.loop-gift.invariant c.in_ok-push_overridden.ensures
