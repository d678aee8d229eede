use Rattle.std.proofs.Common.{◌≡◌, take}
use Rattle.std.specs.Prelude.{flat_map}
use Rattle.hwdb_query.specs.Views.{assignments_of_hits}
use Rattle.hwdb_spec_commands.specs.Listings.{line_of}
use Rattle.hwdb_answers.proofs.kept_texts.lines_of_hits.Given as goal

abbrev pub invariant-loop-hit : goal.invariant-loop-hit
invariant-loop-hit l = l.text.items ≡ flat_map (line_of l.json) (assignments_of_hits (take l.hit-index l.hits))
