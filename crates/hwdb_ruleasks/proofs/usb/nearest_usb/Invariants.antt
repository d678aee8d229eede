use Rattle.std.proofs.Common.{◌≡◌, drop, find, map}
use Rattle.hwdb_spec_commands.specs.Sysfs.{is_usb_device}
use Rattle.hwdb_sysfs.specs.Views.{ancestor_of}
use Rattle.hwdb_ruleasks.proofs.usb.nearest_usb.Given as goal

abbrev pub invariant-loop-ancestor : goal.invariant-loop-ancestor
invariant-loop-ancestor l =
    find is_usb_device (map ancestor_of (drop l.ancestor-index l.chain)) ≡ find is_usb_device (map ancestor_of l.chain)
