use Rattle.std.proofs.Common.{map, refl}
use Rattle.std.proofs.lemmas.Result.{on_ok_weaker}
use Rattle.hwdb_spec_commands.specs.ChangeCounts.{count_object}
use Rattle.hwdb_spec_commands.specs.Json.{array_of}
use Rattle.hwdb_show.specs.Lemmas.Json.{array_closed, key_value}
use Rattle.hwdb_databases.specs.Internal.Counts.{counts_shown}
use Rattle.hwdb_databases.proofs.NamedCountLemmas.{counts_after}
use Rattle.hwdb_databases.proofs.counts_text.put_array.Goals as goal

pub returns-clause-tokens : goal.returns-clause-tokens
returns-clause-tokens c =
    let all = map (count_object c.args.word.now) (counts_shown c.args.counts) in
    let after = counts_after c.key.new.self.tokens c.begin_array.new.self.tokens c.put_all.new.json.tokens c.args.word.now (counts_shown c.args.counts) c.in_ok-begin_array.ensures.ok c.in_ok-put_all.ensures.tokens in
    on_ok_weaker c.end_array.result
    (λ closed. key_value c.args.json.now.tokens c.key.new.self.tokens c.end_array.new.self.tokens c.args.member.now (array_of all) c.in_ok-key.ensures.ok
    (array_closed c.key.new.self.tokens c.put_all.new.json.tokens c.end_array.new.self.tokens all all after refl closed)) c.end_array.ensures.ok
