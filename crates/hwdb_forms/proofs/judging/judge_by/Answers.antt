use Rattle.std.proofs.Common.{refl, sym}
use Rattle.hwdb_spec.specs.Patterns.{tokens}
use Rattle.hwdb_forms.specs.Internal.{forms_of}
use Rattle.hwdb_forms.proofs.FrontLemmas.{fine_told, is_fine}
use Rattle.hwdb_forms.proofs.judging.judge_by.Goals as goal

pub returns-then-is_fine_at_once-clause-fine : goal.returns-then-is_fine_at_once-clause-fine
returns-then-is_fine_at_once-clause-fine c =
    is_fine (forms_of c.args.table) (tokens c.args.pattern.now) _ (sym (c.is_fine_at_once.ensures c.if-is_fine_at_once.true)) refl

pub returns-then-is_fine_at_once-clause-told : goal.returns-then-is_fine_at_once-clause-told
returns-then-is_fine_at_once-clause-told c = fine_told (forms_of c.args.table) c.args.pattern.now (c.is_fine_at_once.ensures c.if-is_fine_at_once.true)
