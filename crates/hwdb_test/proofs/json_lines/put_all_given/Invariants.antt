use Rattle.std.proofs.Common.{◌≡◌, ◌∷◌, ◌++◌, [], flat_map, take, map}
use Rattle.json.specs.Token.{begin_array}
use Rattle.json.specs.Tree.{json_tokens}
use Rattle.hwdb_spec_commands.specs.Wanted.{given_json}
use Rattle.hwdb_test.specs.Views.{given_at}
use Rattle.hwdb_test.proofs.json_lines.put_all_given.Given as goal

abbrev pub invariant-loop-given : goal.invariant-loop-given
invariant-loop-given l = record {
  before : l.json.before ≡ l.fn.json.before;
  tokens : l.json.tokens ≡ (l.fn.json.tokens ++ begin_array ∷ []) ++ flat_map json_tokens (map given_json (map given_at (take l.given-index l.others)));
}
