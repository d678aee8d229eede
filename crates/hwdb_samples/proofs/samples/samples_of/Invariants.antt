use Rattle.std.proofs.Common.{◌≡◌, flat_map, map, take}
use Rattle.hwdb_spec_commands.specs.SamplesFound.{shown_of, undecided_of}
use Rattle.hwdb_samples.specs.Levels.{AreLevels}
use Rattle.hwdb_samples.specs.Views.{own_text, rule_texts, sample_texts}
use Rattle.hwdb_samples.proofs.samples.samples_of.Given as goal

abbrev pub invariant-loop-pattern : goal.invariant-loop-pattern
invariant-loop-pattern l = record {
  levels : AreLevels (map rule_texts l.old) (map rule_texts l.new) l.levels.items;
  shown : map sample_texts l.found.shown.items ≡ flat_map (shown_of (map rule_texts l.old) (map rule_texts l.new)) (map own_text (take l.pattern-index l.pattern-items));
  undecided : map own_text l.found.undecided.items ≡ flat_map (undecided_of (map rule_texts l.old) (map rule_texts l.new)) (map own_text (take l.pattern-index l.pattern-items));
}
