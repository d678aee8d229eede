use Rattle.std.proofs.Common.{◌-◌, arith}
use Rattle.hwdb_check.proofs.MarkLemmas.{after_blank}
use Rattle.hwdb_check.proofs.plain_files.is_after_blank.Goals as goal

pub returns : goal.returns
returns c = after_blank c.args.text.now c.args.place (c.args.place - 1) c.is_blank.result (omega (arith, c.if-place-eq0.false)) c.is_blank.ensures
