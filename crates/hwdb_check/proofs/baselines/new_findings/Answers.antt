use Rattle.std.proofs.Common.{◌∙◌, sym}
use Rattle.hwdb_check.specs.Found.{finds}
use Rattle.hwdb_check.proofs.BaselineLemmas.{nothing_known_by}
use Rattle.hwdb_check.proofs.baselines.new_findings.Goals as goal

pub returns-then-is_empty : goal.returns-then-is_empty
returns-then-is_empty c = nothing_known_by (λ t. t.items) c.args.known.now (finds c.args.found.items) (sym c.is_empty.ensures ∙ c.if-is_empty.true)
