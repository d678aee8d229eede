use Rattle.std.proofs.Common.{◌≡◌, take}
use Rattle.hwdb_query.specs.Views.{explained_values}
use Rattle.hwdb_spec_commands.specs.Json.{explanations_json}
use Rattle.hwdb_answers.proofs.json_explanations.explanation_lines_json.Given as goal

abbrev pub invariant-loop-explained : goal.invariant-loop-explained
invariant-loop-explained l = l.text.items ≡ explanations_json l.device (explained_values (take l.explained-index l.explanations))
