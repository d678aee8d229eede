use Rattle.std.proofs.Common.{◌≡◌, take}
use Rattle.hwdb_query.specs.Views.{pairs_bytes}
use Rattle.hwdb_spec.specs.Texts.{properties_text}
use Rattle.hwdb_answers.proofs.texts.property_lines.Given as goal

abbrev pub invariant-loop-key : goal.invariant-loop-key
invariant-loop-key l = l.text.items ≡ properties_text (pairs_bytes (take l.key-index l.properties))
