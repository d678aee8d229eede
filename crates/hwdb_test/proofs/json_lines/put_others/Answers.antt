use Rattle.std.proofs.Common.{List, ℕ, [], codes, map, refl}
use Rattle.std.proofs.lemmas.Result.{on_ok_weaker}
use Rattle.json.specs.Json.{Json}
use Rattle.hwdb_spec_commands.specs.Json.{array_of}
use Rattle.hwdb_spec_commands.specs.Wanted.{given_json}
use Rattle.hwdb_test.specs.Views.{given_at}
use Rattle.hwdb_show.specs.Lemmas.Json.{key_value, member_behind, no_members_yet}
use Rattle.hwdb_test.proofs.json_lines.put_others.Goals as goal

pub returns-clause-tokens : goal.returns-clause-tokens
returns-clause-tokens c =
    let front = c.args.json.now.tokens in
    let others : Json = array_of (map given_json (map given_at c.args.others.now)) in
    let d : List ℕ × Json = (codes "others", others) in
    on_ok_weaker c.put_all_given.result
    (λ h. member_behind front front c.put_all_given.new.json.tokens [] d (no_members_yet front front refl)
    (key_value front c.key.new.self.tokens c.put_all_given.new.json.tokens (codes "others") others c.in_ok-key.ensures.ok h)) c.put_all_given.ensures.tokens
