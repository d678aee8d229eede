use Rattle.std.proofs.Common.{◌++◌, codes}
use Rattle.std.proofs.lemmas.Result.{on_ok_weaker}
use Rattle.hwdb_spec.specs.Lemmas.Lists.{three_pieces}
use Rattle.hwdb_spec_commands.specs.Recorded.{shown_front, unnamed_why}
use Rattle.hwdb_test.proofs.sayable.push_unnamed.Goals as goal

pub returns : goal.returns
returns c =
    let device = c.args.device.now in
    on_ok_weaker c.push_unnamed_end.result
    (three_pieces c.args.text.now.items c.extend_from_slice.new.self.items c.push_front.new.text.items c.push_unnamed_end.new.text.items (codes "no test file can name the device '") (shown_front device)
    (codes "': " ++ (unnamed_why device ++ codes "; leave it out")) c.in_ok-extend_from_slice.ensures.items c.in_ok-push_front.ensures) c.push_unnamed_end.ensures
