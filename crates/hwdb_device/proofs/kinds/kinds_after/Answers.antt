use Rattle.std.proofs.Common.{refl}
use Rattle.hwdb_device.proofs.kinds.kinds_after.Goals as goal

pub returns : goal.returns
returns c = rw c.flag_after.ensures (rw c.flag_after-2.ensures (rw c.flag_after-3.ensures (rw c.flag_after-4.ensures refl)))
