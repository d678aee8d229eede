use Rattle.std.proofs.Common.{◌∙◌}
use Rattle.hwdb_system.proofs.LineLemmas.{refused_as, path_offset_line}
use Rattle.hwdb_system.proofs.refusals.refuse_digits_at.Goals as goal

pub returns-clause-line : goal.returns-clause-line
returns-clause-line g c = λ offset spelled.
    refused_as _ _ _ _ _ _
    (path_offset_line c.args.line.path.now _ c.args.line.name.now _ _ c.args.line.remedy.now offset c.as_bytes-name.ensures.value (c.as_bytes-digits.ensures.value ∙ spelled) c.as_bytes-remedy.ensures.value)
    c.refuse.ensures.line
