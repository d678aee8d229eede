use Rattle.std.proofs.Common.{◌∙◌}
use Rattle.json.specs.Tree.{json_tokens}
use Rattle.hwdb_spec_commands.specs.ChangeCounts.{count_object}
use Rattle.hwdb_databases.proofs.NamedCountLemmas.{counts_step}
use Rattle.hwdb_databases.proofs.counts_text.put_all.Goals as goal

pub loop-name-preserved : goal.loop-name-preserved
loop-name-preserved c = record {
  before = c.put_named.ensures.before ∙ c.loop-name.invariant.before;
  tokens = counts_step (λ n. json_tokens (count_object c.args.word.now n)) c.loop-name.json.tokens c.put_named.new.json.tokens c.loop-name.name-iterator c.next.new.self c.in-Some.name c.in-Some.count _
      c.in-Some.ensures.steps c.in_ok-put_named.ensures.tokens c.loop-name.invariant.tokens;
}
