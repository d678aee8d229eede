use Rattle.std.proofs.Common.{◌∙◌}
use Rattle.hwdb_device.proofs.PathLemmas.{path_here}
use Rattle.hwdb_device.proofs.texts.path_in.Goals as goal

pub returns-then-place-chain : goal.returns-then-place-chain
returns-then-place-chain c = c.deref.ensures.value ∙ path_here c.args.chain.now c.args.place c.index-chain-place.result c.if-place-chain.true
