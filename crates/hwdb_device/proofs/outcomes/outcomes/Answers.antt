use Rattle.hwdb_device.specs.Views.{gifts_in}
use Rattle.hwdb_device.proofs.OutcomeLemmas.{before_all}
use Rattle.hwdb_device.proofs.outcomes.outcomes.Goals as goal

pub keys-init : goal.keys-init
keys-init c = before_all (gifts_in c.args.gifts.now) c.new-outcomes.result.items c.in_ok-keys.keys.keys c.new-outcomes.ensures.items c.in_ok-keys.ensures
