use Rattle.std.proofs.Common.{List, Bool, arith, subst, sym}
use Rattle.std.specs.Prelude.{Contains}
use Rattle.hwdb_pattern.specs.Internal.Tables.{said}
use Rattle.hwdb_pattern.proofs.TableLemmas.{said_after, said_at, said_there}
use Rattle.hwdb_pattern.proofs.met.LengthTable.contains.Goals as goal

pub returns-then-n-self : goal.returns-then-n-self
returns-then-n-self c = (λ h. cc, λ h. absurd (said_after c.args.self.now.least c.args.n c.args.self.now.says.items c.if-n-self.true h))

pub returns-then-at-says : goal.returns-then-at-says
returns-then-at-says c = (
  λ h. subst (λ (l : List Bool). Contains (said c.args.self.now.least l) c.args.n) c.deref-says.ensures.value
      (said_there c.args.self.now.least c.args.n c.deref-says.result.now c.if-n-self.false c.if-at-says.true h),
  λ h. (said_at c.args.self.now.least c.args.n c.deref-says.result.now c.if-n-self.false
      (subst (λ (l : List Bool). Contains (said c.args.self.now.least l) c.args.n) (sym c.deref-says.ensures.value) h)).1,
)

pub returns-else-at-says : goal.returns-else-at-says
returns-else-at-says c = (
  λ h. cc,
  λ h.
      let at = (said_at c.args.self.now.least c.args.n c.deref-says.result.now c.if-n-self.false
      (subst (λ (l : List Bool). Contains (said c.args.self.now.least l) c.args.n) (sym c.deref-says.ensures.value) h)).0 in
      absurd (omega (arith, at)),
)
