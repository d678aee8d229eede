use Rattle.std.proofs.Common.{◌-◌, arith, lt-ltb}
use Rattle.hwdb_pattern.proofs.PlaceLemmas.{rest_has, rest_from, less}
use Rattle.hwdb_pattern.proofs.rests.Rest.contains.Goals as goal

pub returns-then-n-self : goal.returns-then-n-self
returns-then-n-self c = (λ h. cc, λ m. absurd (omega (arith, (rest_from c.args.self.least c.args.self.count c.args.n m).0, c.if-n-self.true)))

pub returns : goal.returns
returns c = (
  λ h. rest_has c.args.self.least c.args.self.count c.args.n (omega (arith, c.if-n-self.false)) (less (c.args.n - c.args.self.least) c.args.self.count h),
  λ m. lt-ltb (c.args.n - c.args.self.least) c.args.self.count
      (let bounds = rest_from c.args.self.least c.args.self.count c.args.n m in omega (arith, bounds.0, bounds.1)),
)
