use Rattle.std.proofs.Common.{◌++◌, ◌∷◌, [], append_assoc, map}
use Rattle.std.proofs.lemmas.Result.{on_ok_weaker}
use Rattle.json.specs.Token.{begin_object}
use Rattle.hwdb_test.specs.Views.{given_at, line_at}
use Rattle.hwdb_spec_commands.specs.Wanted.{hint_members, instead_members, wanted_members}
use Rattle.hwdb_show.specs.Lemmas.Json.{members_behind, no_members_yet, object_closed}
use Rattle.hwdb_test.proofs.json_lines.put_failure.Goals as goal

pub returns-clause-tokens : goal.returns-clause-tokens
returns-clause-tokens c =
    let front = c.args.json.now.tokens ++ begin_object ∷ [] in
    let wanted = wanted_members c.args.failure.path.now c.args.failure.device.now (line_at c.args.failure.line.now) in
    let given = instead_members (line_at c.args.failure.line.now) (map given_at c.args.failure.instead.now) in
    let none = no_members_yet front c.begin_object.new.self.tokens c.in_ok-begin_object.ensures.ok in
    let one = members_behind front c.begin_object.new.self.tokens c.put_wanted.new.json.tokens [] wanted none c.in_ok-put_wanted.ensures.tokens in
    let two = members_behind front c.put_wanted.new.json.tokens c.put_instead.new.json.tokens wanted given one c.in_ok-put_instead.ensures.tokens in
    let hint = hint_members c.args.failure.device.now in
    let three = members_behind front c.put_instead.new.json.tokens c.put_hint.new.json.tokens (wanted ++ given) hint two c.in_ok-put_hint.ensures.tokens in
    on_ok_weaker c.end_object.result
    (object_closed c.args.json.now.tokens c.put_hint.new.json.tokens c.end_object.new.self.tokens ((wanted ++ given) ++ hint) (wanted ++ (given ++ hint)) three (append_assoc wanted given hint))
    c.end_object.ensures.ok
