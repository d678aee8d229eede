use Rattle.std.proofs.Common.{codes}
use Rattle.std.specs.Prelude.{flat_map}
use Rattle.std.proofs.lemmas.Result.{on_ok_weaker}
use Rattle.hwdb_spec_commands.specs.Logs.{uri_byte}
use Rattle.hwdb_check.proofs.FollowLemmas.{two_pieces}
use Rattle.hwdb_check.proofs.logs.push_changed.Goals as goal

pub returns : goal.returns
returns c =
    on_ok_weaker c.push_uri.result
    (two_pieces c.args.text.now.items c.push_text.new.text.items c.push_uri.new.text.items
    (codes ",\"fixes\":[{\"artifactChanges\":[{\"artifactLocation\":{\"uri\":\"") (flat_map uri_byte c.args.path.now) c.in_ok-push_text.ensures)
    c.push_uri.ensures
