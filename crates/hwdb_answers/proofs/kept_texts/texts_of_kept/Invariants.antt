use Rattle.std.proofs.Common.{◌≡◌, ◌++◌, ℕ, List, length, map, string_bytes}
use Rattle.hwdb_spec.specs.Format.{IsDatabase}
use Rattle.hwdb_spec_commands.specs.Streams.{texts_of}
use Rattle.hwdb_spec.specs.Tree.{Tree}
use Rattle.hwdb_lookup.specs.Files.Views.{AreOf, IsKept}
use Rattle.hwdb_answers.specs.Internal.{texts_from}
use Rattle.hwdb_answers.proofs.kept_texts.texts_of_kept.Given as goal

abbrev pub invariant-answering : goal.invariant-answering
invariant-answering g l = record {
  stay : (file : List ℕ) → g.P.Places.is_of l.places file → AreOf l.windows file;
  text : (file : List ℕ) (t : Tree) → g.P.Places.is_of l.places file → IsKept l.kept file → IsDatabase file t
      → l.all.items ++ texts_from l.form l.is_first (map string_bytes l.left) t ≡ texts_of l.form (map string_bytes l.devices) t;
}

abbrev pub decreases-answering : goal.decreases-answering
decreases-answering g l = length l.left
