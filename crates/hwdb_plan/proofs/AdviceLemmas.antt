-- Which commands have a line on what to try next, and which ends have it.
use Rattle.std.proofs.Common.{refl}
use Rattle.hwdb_plan.specs.Advice.{AdviceRows, AdvisedRows}

pub advice_rows : AdviceRows
advice_rows = (refl, refl)

pub advised_rows : AdvisedRows
advised_rows = refl
