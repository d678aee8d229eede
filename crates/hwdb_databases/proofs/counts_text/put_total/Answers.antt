use Rattle.std.proofs.Common.{◌++◌, ◌∷◌, [], codes, refl}
use Rattle.std.proofs.lemmas.Result.{on_ok_weaker}
use Rattle.json.specs.Token.{begin_object}
use Rattle.hwdb_spec_commands.specs.ChangeCounts.{count_members}
use Rattle.hwdb_spec_commands.specs.Json.{object_of}
use Rattle.hwdb_show.specs.Lemmas.Json.{key_value, members_behind, no_members_yet, object_closed}
use Rattle.hwdb_databases.specs.Internal.Counts.{count_shown}
use Rattle.hwdb_databases.proofs.counts_text.put_total.Goals as goal

pub returns-clause-tokens : goal.returns-clause-tokens
returns-clause-tokens c =
    let front = c.key.new.self.tokens ++ begin_object ∷ [] in
    let all = count_members (count_shown c.args.total) in
    let none = no_members_yet front c.begin_object.new.self.tokens c.in_ok-begin_object.ensures.ok in
    let one = members_behind front c.begin_object.new.self.tokens c.put_counts.new.json.tokens [] all none c.in_ok-put_counts.ensures.tokens in
    on_ok_weaker c.end_object.result
    (λ closed. key_value c.args.json.now.tokens c.key.new.self.tokens c.end_object.new.self.tokens (codes "total") (object_of all) c.in_ok-key.ensures.ok
    (object_closed c.key.new.self.tokens c.put_counts.new.json.tokens c.end_object.new.self.tokens all all one refl closed)) c.end_object.ensures.ok
