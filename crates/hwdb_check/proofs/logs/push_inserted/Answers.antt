use Rattle.std.proofs.Common.{codes}
use Rattle.std.proofs.lemmas.Result.{on_ok_weaker}
use Rattle.hwdb_spec_commands.specs.Logs.{text_object}
use Rattle.hwdb_check.proofs.AllowedLemmas.{three_pieces}
use Rattle.hwdb_check.proofs.logs.push_inserted.Goals as goal

pub returns : goal.returns
returns c =
    on_ok_weaker c.push_text-2.result
    (three_pieces c.args.text.now.items c.push_text.new.text.items c.push_object.new.text.items c.push_text-2.new.text.items
    (codes "},\"insertedContent\":") (text_object c.args.meant.now) (codes "}]}]}]") c.in_ok-push_text.ensures c.in_ok-push_object.ensures)
    c.push_text-2.ensures
