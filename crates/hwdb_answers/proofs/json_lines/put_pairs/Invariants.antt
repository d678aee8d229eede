use Rattle.std.proofs.Common.{◌≡◌, ◌∷◌, ◌++◌, [], flat_map, take, map}
use Rattle.json.specs.Token.{begin_array}
use Rattle.json.specs.Tree.{json_tokens}
use Rattle.hwdb_query.specs.Views.{pairs_bytes}
use Rattle.hwdb_spec_commands.specs.Json.{pair_json}
use Rattle.hwdb_answers.proofs.json_lines.put_pairs.Given as goal

abbrev pub invariant-loop-key : goal.invariant-loop-key
invariant-loop-key l = record {
  before : l.json.before ≡ l.fn.json.before;
  tokens : l.json.tokens ≡ (l.fn.json.tokens ++ begin_array ∷ []) ++ flat_map json_tokens (map pair_json (pairs_bytes (take l.key-index l.properties)));
}
