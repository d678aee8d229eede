use Rattle.std.proofs.Common.{◌∙◌, ◌++◌, ap, map, sym}
use Rattle.hwdb_rulerun.specs.Views.{known_of}
use Rattle.hwdb_rulerun.specs.declared.sights.Known.{Known}
use Rattle.hwdb_ruleevents.specs.ChangeViews.{held_of}
use Rattle.hwdb_spec_rules.specs.DeviceCommands.{numbers_put}
use Rattle.hwdb_ruleasks.proofs.PutLemmas.{two_put}
use Rattle.hwdb_ruleasks.proofs.usb.push_numbers.Goals as goal

pub returns-in_ok-push_number-in-Missing-2 : goal.returns-in_ok-push_number-in-Missing-2
returns-in_ok-push_number-in-Missing-2 c =
    let before = map held_of c.args.all.now.items in
    two_put before (map held_of c.push_number.new.all.items) (map held_of c.push_number-in-Missing.new.all.items) _ _ c.in_ok-push_number-in-Missing.ensures c.in_ok-push_number-in-Missing-2.ensures
    ∙ ap (λ (bus : Known). before ++ numbers_put (known_of bus) c.args.vendor.now c.args.product.now) (sym c.in-Missing.is)
