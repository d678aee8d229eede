use Rattle.std.proofs.Common.{arith, drop}
use Rattle.hwdb_check.specs.Among.{now_at, number_mark}
use Rattle.hwdb_check.specs.Found.{kept_of}
use Rattle.hwdb_check.proofs.AmongLemmas.{next_met, passed_over}
use Rattle.hwdb_check.proofs.among.met_with.Goals as goal

pub returns-then-met-now-clause-goes : goal.returns-then-met-now-clause-goes
returns-then-met-now-clause-goes c = λ marks left all so_far.
    passed_over marks all (now_at (drop c.args.met c.args.now.now)) (number_mark (kept_of c.args.known.now)) left so_far

pub returns-then-not-are_one-clause-goes : goal.returns-then-not-are_one-clause-goes
returns-then-not-are_one-clause-goes c = λ marks left all so_far.
    passed_over marks all (now_at (drop c.args.met c.args.now.now)) (number_mark (kept_of c.args.known.now)) left so_far

pub returns-clause-goes : goal.returns-clause-goes
returns-clause-goes c = λ marks left all so_far.
    next_met marks left all c.args.now.now c.args.met c.index-now-met.result c.args.known.now (omega (arith, c.requires, c.if-met-now.false)) c.index-now-met.is (c.are_one.ensures c.if-not-are_one.false) so_far
