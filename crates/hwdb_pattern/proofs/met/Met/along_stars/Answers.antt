use Rattle.std.proofs.Common.{arith, length}
use Rattle.hwdb_pattern.specs.Internal.Met.{lengths_of}
use Rattle.hwdb_pattern.proofs.PathLemmas.{along_stars, along_end, spread_within}
use Rattle.hwdb_pattern.proofs.met.Met.along_stars.Goals as goal

pub returns-clause-follows : goal.returns-clause-follows
returns-clause-follows c =
    let stars = c.args.stars.now in
    let device = c.args.device.now in
    let before = lengths_of c.args.self.now in
    along_end device before (lengths_of c.after_star.result) stars (length stars) (omega arith)
    (along_stars device before (lengths_of c.after_star.result) stars (length stars) c.after_star.ensures c.requires.some (omega arith) c.requires.stars)

pub returns-clause-within : goal.returns-clause-within
returns-clause-within c = spread_within c.args.device.now (lengths_of c.args.self.now) (lengths_of c.after_star.result) c.after_star.ensures
