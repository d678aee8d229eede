use Rattle.std.proofs.Common.{arith}
use Rattle.hwdb_tool.proofs.crash.kill_then_query.Goals as goal

pub returns-clause-stood : goal.returns-clause-stood
returns-clause-stood g c = λ tells between p.
    g.met.D.Store.earlier c.args.new.now (g.D.Store.moment c.args.old.now) (g.D.Store.moment c.args.middle.now) p (g.D.Store.seen c.args.middle.now p) between.begun
    (between.kept (g.D.Store.moment c.args.middle.now) p (g.D.Store.seen c.args.middle.now p) (omega arith)
    (g.met.D.Store.from_now c.args.middle.now p (g.D.Store.seen c.args.middle.now p) (g.met.D.Store.stands c.args.middle.now p tells)))

pub returns-clause-run : goal.returns-clause-run
returns-clause-run g c = λ tells between words job asked etc leaves.
    c.crash_then_query.ensures.run words job asked etc leaves (g.D.Store.seen c.args.middle.now) (returns-clause-stood g c tells between)
