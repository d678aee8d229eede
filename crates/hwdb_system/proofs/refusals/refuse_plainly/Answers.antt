use Rattle.std.proofs.Common.{ap, sym}
use Rattle.hwdb_spec_commands.specs.Refusals.{refusal_line}
use Rattle.hwdb_spec.specs.Errors.{error_text}
use Rattle.hwdb_spec.specs.declared.errors.ToolError.{ToolError}
use Rattle.hwdb_system.proofs.LineLemmas.{refused_as}
use Rattle.hwdb_system.proofs.refusals.refuse_plainly.Goals as goal

pub returns-in-BadDatabase-clause-line : goal.returns-in-BadDatabase-clause-line
returns-in-BadDatabase-clause-line g c =
    refused_as _ _ _ _ _ _ (ap (λ (e : ToolError). refusal_line (error_text e)) (sym c.in-BadDatabase.is)) c.refuse_database.ensures.line
