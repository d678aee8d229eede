use Rattle.hwdb_system.proofs.LineLemmas.{refused_as, path_line}
use Rattle.hwdb_system.proofs.refusals.refuse_name_at.Goals as goal

pub returns-clause-line : goal.returns-clause-line
returns-clause-line g c =
    refused_as _ _ _ _ _ _ (path_line c.args.path.now _ c.args.name.now _ c.args.remedy.now c.as_bytes-name.ensures.value c.as_bytes-remedy.ensures.value) c.refuse.ensures.line
