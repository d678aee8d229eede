use Rattle.std.proofs.Common.{ap, sym, ◌==◌}
use Rattle.hwdb_pattern.proofs.PlaceLemmas.{rest_size}
use Rattle.hwdb_pattern.proofs.rests.Rest.is_empty.Goals as goal

pub returns : goal.returns
returns c = ap (λ n. n == 0) (sym (rest_size c.args.self.least c.args.self.count))
