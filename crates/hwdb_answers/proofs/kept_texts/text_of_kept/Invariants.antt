use Rattle.std.proofs.Common.{ℕ, List}
use Rattle.hwdb_lookup.specs.Files.Views.{AreOf}
use Rattle.hwdb_answers.proofs.kept_texts.text_of_kept.Given as goal

abbrev pub invariant-reading : goal.invariant-reading
invariant-reading g l = (file : List ℕ) → g.P.Places.is_of l.places file → AreOf l.fn.windows file → AreOf l.windows file
