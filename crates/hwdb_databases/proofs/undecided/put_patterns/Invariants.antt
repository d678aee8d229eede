use Rattle.std.proofs.Common.{◌≡◌, ◌∷◌, ◌++◌, [], flat_map, take, map}
use Rattle.json.specs.Token.{begin_array}
use Rattle.json.specs.Tree.{json_tokens}
use Rattle.hwdb_spec_commands.specs.Json.{text_json}
use Rattle.hwdb_samples.specs.Views.{own_text}
use Rattle.hwdb_databases.proofs.undecided.put_patterns.Given as goal

abbrev pub invariant-loop-pattern : goal.invariant-loop-pattern
invariant-loop-pattern l = record {
  before : l.json.before ≡ l.fn.json.before;
  tokens : l.json.tokens ≡ (l.fn.json.tokens ++ begin_array ∷ []) ++ flat_map json_tokens (map text_json (map own_text (take l.pattern-index l.patterns)));
}
