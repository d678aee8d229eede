use Rattle.std.proofs.Common.{◌≡◌, take}
use Rattle.hwdb_query.specs.Views.{explained_values}
use Rattle.hwdb_spec.specs.Explanations.{explanations_text}
use Rattle.hwdb_answers.proofs.explanation.explanation_lines.Given as goal

abbrev pub invariant-loop-explained : goal.invariant-loop-explained
invariant-loop-explained l = l.text.items ≡ explanations_text (explained_values (take l.explained-index l.explanations))
