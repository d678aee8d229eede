use Rattle.std.proofs.Common.{◌≡◌, ◌++◌, map}
use Rattle.hwdb_query.specs.Views.{explained_values}
use Rattle.hwdb_query.specs.Internal.Explaining.{explained_entry}
use Rattle.hwdb_query.proofs.by_key.AnswersByKey.explained.Given as goal

abbrev pub invariant-loop-key : goal.invariant-loop-key
invariant-loop-key l = explained_values l.list.items ++ map explained_entry l.key-iterator ≡ map explained_entry l.fn.self.answers.entries
