use Rattle.std.proofs.Common.{◌≡◌, ◌++◌, map, take}
use Rattle.hwdb_spec.specs.Records.{Origin}
use Rattle.hwdb_text.specs.Views.{given, given_in, text_of}
use Rattle.hwdb_text.proofs.records.assign.Given as goal

abbrev pub invariant-loop-pattern : goal.invariant-loop-pattern
invariant-loop-pattern l = (o : Origin) → map (given_in o) l.assignments.items
    ≡ map (given_in o) l.initial.assignments.items ++ map (given o l.line l.key l.value) (map text_of (take l.pattern-index l.patterns))
