use Rattle.std.proofs.Common.{◌≡◌, ◌∷◌, ◌++◌, [], filter, take, map}
use Rattle.json.specs.Token.{begin_object}
use Rattle.hwdb_query.specs.Views.{pairs_bytes}
use Rattle.hwdb_spec_commands.specs.Json.{has_name, property_member}
use Rattle.hwdb_show.specs.JsonTokens.{tokens_of_members}
use Rattle.hwdb_answers.proofs.json_lines.put_named.Given as goal

abbrev pub invariant-loop-key : goal.invariant-loop-key
invariant-loop-key l = record {
  before : l.json.before ≡ l.fn.json.before;
  tokens : l.json.tokens ≡ (l.fn.json.tokens ++ begin_object ∷ [])
      ++ tokens_of_members (map property_member (filter has_name (pairs_bytes (take l.key-index l.properties))));
}
