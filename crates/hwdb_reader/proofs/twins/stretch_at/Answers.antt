use Rattle.std.proofs.Common.{arith}
use Rattle.hwdb_reader.proofs.SharedLemmas.{front_shared}
use Rattle.hwdb_reader.proofs.twins.stretch_at.Goals as goal

pub front_from-pieces-requires-clause-same : goal.front_from-pieces-requires-clause-same
front_from-pieces-requires-clause-same c k lt = absurd (omega (arith, lt))

pub returns-clause-shared : goal.returns-clause-shared
returns-clause-shared c =
    front_shared c.args.a.now c.args.b.now c.args.at.old c.args.at.new c.front_from-same.result c.ended-count.result c.requires.old c.requires.new
    c.front_from-same.ensures.same c.ended-count.ensures.within c.ended-count.ensures.zero
