use Rattle.std.proofs.Common.{List, ℕ, ◌++◌, ◌∷◌, [], codes, map, refl}
use Rattle.std.proofs.lemmas.Result.{on_ok_weaker}
use Rattle.json.specs.Json.{Json}
use Rattle.json.specs.Token.{begin_object}
use Rattle.hwdb_spec_commands.specs.ChangeCounts.{count_members, count_object, devices_member}
use Rattle.hwdb_spec_commands.specs.Json.{array_of, object_of}
use Rattle.hwdb_show.specs.Lemmas.Json.{member_behind, members_behind, no_members_yet, object_closed}
use Rattle.hwdb_databases.specs.Internal.Counts.{stat_shown}
use Rattle.hwdb_databases.proofs.counts_text.put_stat.Goals as goal

pub returns-clause-tokens : goal.returns-clause-tokens
returns-clause-tokens c =
    let s = stat_shown c.args.stat in
    let front = c.args.json.now.tokens ++ begin_object ∷ [] in
    let a : List ℕ × Json = (codes "files", array_of (map (count_object (codes "file")) s.files)) in
    let b : List ℕ × Json = (codes "keys", array_of (map (count_object (codes "key")) s.keys)) in
    let d : List ℕ × Json = (codes "total", object_of (count_members s.total)) in
    let none = no_members_yet front c.begin_object.new.self.tokens c.in_ok-begin_object.ensures.ok in
    let one = member_behind front c.begin_object.new.self.tokens c.put_array.new.json.tokens [] a none c.in_ok-put_array.ensures.tokens in
    let two = member_behind front c.put_array.new.json.tokens c.put_array-2.new.json.tokens (a ∷ []) b one c.in_ok-put_array-2.ensures.tokens in
    let three = member_behind front c.put_array-2.new.json.tokens c.put_total.new.json.tokens (a ∷ b ∷ []) d two c.in_ok-put_total.ensures.tokens in
    on_ok_weaker c.end_object.result (λ closed devices asked.
    let more = devices_member devices s.devices in
    let four = members_behind front c.put_total.new.json.tokens c.put_devices.new.json.tokens (a ∷ b ∷ d ∷ []) more three (c.in_ok-put_devices.ensures.tokens devices asked) in
    object_closed c.args.json.now.tokens c.put_devices.new.json.tokens c.end_object.new.self.tokens (a ∷ b ∷ d ∷ more) (a ∷ b ∷ d ∷ more) four refl closed) c.end_object.ensures.ok
