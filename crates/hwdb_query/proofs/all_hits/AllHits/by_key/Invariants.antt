use Rattle.std.proofs.Common.{◌++◌, map, List}
use Rattle.hwdb_spec.specs.Assignment.{Assignment}
use Rattle.hwdb_query.specs.Internal.Explaining.{IsByKey, all_shown, assignment_at_place}
use Rattle.hwdb_query.specs.declared.by_key.AnswersByKey.{AnswersByKey}
use Rattle.hwdb_query.proofs.all_hits.AllHits.by_key.Given as goal

abbrev pub invariant-loop-place : goal.invariant-loop-place
invariant-loop-place l =
    (end : AnswersByKey) → ((before : List Assignment) → IsByKey l.by_key before → IsByKey end (before ++ map assignment_at_place l.place-iterator))
    → IsByKey end (all_shown l.fn.self)
