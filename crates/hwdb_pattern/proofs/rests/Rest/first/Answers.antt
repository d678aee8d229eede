use Rattle.std.proofs.Common.{arith, ap, ◌∙◌}
use Rattle.hwdb_pattern.specs.Internal.Places.{rest_lengths}
use Rattle.hwdb_pattern.proofs.PlaceLemmas.{rest_has, rest_least, rest_none}
use Rattle.hwdb_pattern.proofs.rests.Rest.first.Goals as goal

pub returns-then-self-eq0-clause-none : goal.returns-then-self-eq0-clause-none
returns-then-self-eq0-clause-none c = ap (rest_lengths c.args.self.least) c.if-self-eq0.true ∙ rest_none c.args.self.least

pub returns-else-self-eq0-clause-member : goal.returns-else-self-eq0-clause-member
returns-else-self-eq0-clause-member c = rest_has c.args.self.least c.args.self.count c.args.self.least (omega arith) (omega (arith, c.if-self-eq0.false))

pub returns-else-self-eq0-clause-least : goal.returns-else-self-eq0-clause-least
returns-else-self-eq0-clause-least c = rest_least c.args.self.least c.args.self.count
