use Rattle.std.proofs.Common.{arith}
use Rattle.hwdb_reader.proofs.JoinLemmas.{runs, runs_from}
use Rattle.hwdb_reader.proofs.repeats.joined_runs.Goals as goal

pub returns : goal.returns
returns c =
    let one = c.args.one in
    let other = c.args.other in
    let first = c.if-not-is_run.ensures in
    let second = c.if-not-is_run-2.ensures in
    let gap = c.common_period-gap in
    let whole = runs c.args.b.now one.first one.gap one.end other.first other.gap other.end c.max-from.result c.min-to.result c.max.result c.min.result gap.result
    c.requires.one c.requires.other (omega (arith, first)) (omega (arith, first)) (omega (arith, second)) (omega (arith, second))
    c.max-from.ensures c.min-to.ensures (omega arith) c.max.ensures c.min.ensures gap.ensures.some gap.ensures.shorter gap.ensures.period in
    runs_from c.args.b.now one.first one.gap one.end other.first other.gap other.end c.min-2.result c.max-2.result gap.result c.min-2.ensures c.max-2.ensures whole
