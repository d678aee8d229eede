use Rattle.std.proofs.Common.{◌∙◌}
use Rattle.hwdb_system.proofs.LineLemmas.{refused_as, database_line, offset_line}
use Rattle.hwdb_system.proofs.refusals.refuse_database.Goals as goal

pub returns-in-None-clause-line : goal.returns-in-None-clause-line
returns-in-None-clause-line g c =
    refused_as _ _ _ _ _ _ (database_line _ _ _ (c.as_bytes-name.ensures.value ∙ c.name.ensures) c.offset.ensures c.in-None.is) c.refuse.ensures.line

pub returns-in-Some-clause-line : goal.returns-in-Some-clause-line
returns-in-Some-clause-line g c =
    refused_as _ _ _ _ _ _
    (offset_line _ _ _ _ _ (c.as_bytes-name.ensures.value ∙ c.name.ensures) (c.as_bytes-digits.ensures.value ∙ c.format.ensures.text) c.offset.ensures c.in-Some.is)
    c.refuse-in-Some.ensures.line
