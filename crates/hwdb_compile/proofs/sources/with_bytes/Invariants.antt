use Rattle.std.proofs.Common.{◌≡◌, map, take, All}
use Rattle.hwdb_text.specs.Views.{choice_of}
use Rattle.hwdb_text.specs.Views.{bytes_in, choice_in}
use Rattle.hwdb_compile.specs.Internal.Reading.{bytes_at}
use Rattle.hwdb_compile.proofs.sources.with_bytes.Given as goal

abbrev pub invariant-loop-choice : goal.invariant-loop-choice
invariant-loop-choice l = record {
  choices : map choice_in l.files.items ≡ map choice_of (take l.choice-index l.chosen);
  bytes : All (λ f. bytes_in f ≡ bytes_at l.index (choice_in f).name) l.files.items;
}
