use Rattle.std.proofs.Common.{◌≡◌, map, length, take}
use Rattle.hwdb_text.specs.Views.{choice_of}
use Rattle.hwdb_text.specs.Views.{choice_in, bytes_in}
use Rattle.hwdb_system.proofs.folders.with_texts.Given as goal

abbrev pub invariant-loop-choice : goal.invariant-loop-choice
invariant-loop-choice l = record {
  count : length l.files.items ≡ l.choice-index;
  choices : map choice_in l.files.items ≡ map choice_of (take l.choice-index l.chosen);
  bytes : map bytes_in l.files.items ≡ map (λ t. t.items) (take l.choice-index l.texts);
}
