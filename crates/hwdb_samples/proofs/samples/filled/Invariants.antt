use Rattle.std.proofs.Common.{◌≡◌, flat_map, take}
use Rattle.hwdb_spec_commands.specs.FormTexts.{widened}
use Rattle.hwdb_forms.specs.Internal.{views}
use Rattle.hwdb_samples.proofs.samples.filled.Given as goal

abbrev pub invariant-loop-token : goal.invariant-loop-token
invariant-loop-token l = views l.wide.items ≡ flat_map widened (views (take l.token-index l.tokens))
