use Rattle.std.proofs.Common.{◌≡◌, ◌++◌, flat_map, map}
use Rattle.json.specs.Tree.{json_tokens}
use Rattle.hwdb_spec_commands.specs.ChangeCounts.{count_object}
use Rattle.hwdb_databases.specs.Internal.Counts.{counts_shown, named_count}
use Rattle.hwdb_databases.proofs.counts_text.put_all.Given as goal

abbrev pub invariant-loop-name : goal.invariant-loop-name
invariant-loop-name l = record {
  before : l.json.before ≡ l.fn.json.before;
  tokens : l.json.tokens ++ flat_map (λ n. json_tokens (count_object l.fn.word n)) (map named_count l.name-iterator)
      ≡ l.fn.json.tokens ++ flat_map (λ n. json_tokens (count_object l.fn.word n)) (counts_shown l.fn.counts);
}
