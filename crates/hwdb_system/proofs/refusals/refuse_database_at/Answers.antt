use Rattle.hwdb_system.proofs.LineLemmas.{refused_as, fault_line_is}
use Rattle.hwdb_system.proofs.refusals.refuse_database_at.Goals as goal

pub returns-in-None-clause-line : goal.returns-in-None-clause-line
returns-in-None-clause-line g c =
    refused_as _ _ _ _ _ _ (fault_line_is c.args.fault c.args.path.now _ _ _ _ c.name.ensures c.remedy.ensures c.offset.ensures c.in-None.is) c.refuse_name_at.ensures.line

pub returns-in-Some-clause-line : goal.returns-in-Some-clause-line
returns-in-Some-clause-line g c =
    refused_as _ _ _ _ _ _ (fault_line_is c.args.fault c.args.path.now _ _ _ _ c.name-in-Some.ensures c.remedy-in-Some.ensures c.offset.ensures c.in-Some.is) c.refuse_offset_at.ensures.line
