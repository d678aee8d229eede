use Rattle.std.proofs.Common.{◌≡◌, ◌∷◌, ◌++◌, [], flat_map, take, map}
use Rattle.json.specs.Token.{begin_array}
use Rattle.json.specs.Tree.{json_tokens}
use Rattle.hwdb_spec_commands.specs.Json.{text_json}
use Rattle.hwdb_databases.proofs.json_reports.put_texts.Given as goal

abbrev pub invariant-loop-text : goal.invariant-loop-text
invariant-loop-text l = record {
  before : l.json.before ≡ l.fn.json.before;
  tokens : l.json.tokens ≡ (l.fn.json.tokens ++ begin_array ∷ []) ++ flat_map json_tokens (map text_json (map (λ t. t.items) (take l.text-index l.texts)));
}
