use Rattle.std.proofs.Common.{◌≡◌, ◌++◌, take, map}
use Rattle.std.specs.Prelude.{flat_map}
use Rattle.hwdb_query.specs.Views.{assignment_of_answer}
use Rattle.hwdb_spec.specs.Explanations.{overridden_text}
use Rattle.hwdb_answers.proofs.explanation.push_all_overridden.Given as goal

abbrev pub invariant-loop-answer : goal.invariant-loop-answer
invariant-loop-answer l = l.text.items ≡ l.fn.text.items ++ flat_map overridden_text (map assignment_of_answer (take l.answer-index l.answers))
