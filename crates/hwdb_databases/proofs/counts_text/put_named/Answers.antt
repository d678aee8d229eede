use Rattle.std.proofs.Common.{List, ℕ, ◌++◌, ◌∷◌, [], refl}
use Rattle.std.proofs.lemmas.Result.{on_ok_weaker}
use Rattle.json.specs.Json.{Json}
use Rattle.json.specs.Token.{begin_object}
use Rattle.hwdb_spec_commands.specs.ChangeCounts.{count_members}
use Rattle.hwdb_spec_commands.specs.Json.{text_json}
use Rattle.hwdb_show.specs.Lemmas.Json.{member_behind, members_behind, no_members_yet, object_closed}
use Rattle.hwdb_databases.specs.Internal.Counts.{count_shown}
use Rattle.hwdb_databases.proofs.counts_text.put_named.Goals as goal

pub returns-clause-tokens : goal.returns-clause-tokens
returns-clause-tokens c =
    let front = c.args.json.now.tokens ++ begin_object ∷ [] in
    let a : List ℕ × Json = (c.args.word.now, text_json c.args.name.now) in
    let more = count_members (count_shown c.args.count) in
    let none = no_members_yet front c.begin_object.new.self.tokens c.in_ok-begin_object.ensures.ok in
    let one = member_behind front c.begin_object.new.self.tokens c.put_member.new.json.tokens [] a none c.in_ok-put_member.ensures.tokens in
    let two = members_behind front c.put_member.new.json.tokens c.put_counts.new.json.tokens (a ∷ []) more one c.in_ok-put_counts.ensures.tokens in
    on_ok_weaker c.end_object.result (object_closed c.args.json.now.tokens c.put_counts.new.json.tokens c.end_object.new.self.tokens (a ∷ more) (a ∷ more) two refl) c.end_object.ensures.ok
