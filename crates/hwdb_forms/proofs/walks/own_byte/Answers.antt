use Rattle.std.proofs.Common.{length}
use Rattle.hwdb_forms.proofs.MeetLemmas.{byte_token, some_left}
use Rattle.hwdb_forms.proofs.walks.own_byte.Goals as goal

pub returns : goal.returns
returns c = byte_token c.args.text.now c.if-first-eq42.false c.if-first-eq63.false c.if-first-eq91.false (some_left (length c.args.text.now) c.if-is_empty.ensures)
