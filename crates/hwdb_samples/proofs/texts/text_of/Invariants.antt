use Rattle.std.proofs.Common.{◌≡◌, flat_map, map, take}
use Rattle.hwdb_samples.specs.Internal.{token_of}
use Rattle.hwdb_spec_commands.specs.SampleTexts.{piece_of}
use Rattle.hwdb_samples.proofs.texts.text_of.Given as goal

abbrev pub invariant-loop-token : goal.invariant-loop-token
invariant-loop-token l = l.text.items ≡ flat_map (piece_of l.star) (map token_of (take l.token-index l.token-items))
