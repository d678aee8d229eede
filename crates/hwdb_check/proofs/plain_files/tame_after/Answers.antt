use Rattle.std.proofs.Common.{arith, refl}
use Rattle.hwdb_check.proofs.MarkLemmas as mark
use Rattle.hwdb_check.proofs.plain_files.tame_after.Goals as goal

pub returns-then-end-tame : goal.returns-then-end-tame
returns-then-end-tame c =
    mark.tame_after c.args.rest.now c.args.end c.args.tame _ c.requires.end (omega (arith, c.if-end-rest.false)) c.if-end-tame.true refl c.requires.tame
