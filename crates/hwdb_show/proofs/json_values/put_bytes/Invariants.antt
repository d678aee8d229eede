use Rattle.std.proofs.Common.{◌≡◌, ◌∷◌, ◌++◌, [], flat_map, take, map}
use Rattle.json.specs.Token.{begin_array}
use Rattle.json.specs.Tree.{json_tokens}
use Rattle.hwdb_spec_commands.specs.Json.{number_json}
use Rattle.hwdb_show.proofs.json_values.put_bytes.Given as goal

abbrev pub invariant-loop-byte : goal.invariant-loop-byte
invariant-loop-byte l = record {
  before : l.json.before ≡ l.fn.json.before;
  tokens : l.json.tokens ≡ (l.fn.json.tokens ++ begin_array ∷ []) ++ flat_map json_tokens (map number_json (take l.byte-index l.bytes));
}
