use Rattle.std.proofs.Common.{arith, eqb-true}
use Rattle.hwdb_forms.proofs.PlainLemmas.{lone_star}
use Rattle.hwdb_forms.proofs.plain.is_lone_star.Goals as goal

pub returns-then-text-eq1 : goal.returns-then-text-eq1
returns-then-text-eq1 c = λ e. lone_star c.args.text.now (omega arith) (eqb-true _ 42 e)
