use Rattle.hwdb_lookup.proofs.files.PlaceLemmas.{none_waits}
use Rattle.hwdb_lookup.proofs.files.passes.is_accepted.Goals as goal

pub passing-init : goal.passing-init
passing-init g c = λ file of is. none_waits c.args.o file c.in-Some.pass.offsets.items c.in-Some.pass.heights.items c.in-Some.pass.done c.in-Some.ensures is
