use Rattle.std.proofs.Common.{◌∙◌, ap, reverse}
use Rattle.hwdb_device.specs.Views.{gift_in, gifts_in}
use Rattle.hwdb_device.proofs.ListLemmas.{map-reverse}
use Rattle.hwdb_device.proofs.gifts.given_to.Goals as goal

pub returns : goal.returns
returns c = ap gifts_in c.reverse.ensures.items ∙ map-reverse gift_in c.in_ok-given.given.items ∙ ap reverse c.in_ok-given.ensures
