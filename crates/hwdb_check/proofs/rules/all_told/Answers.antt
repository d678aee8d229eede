use Rattle.std.proofs.Common.{map}
use Rattle.hwdb_rulefiles.specs.Views.{text_of}
use Rattle.hwdb_rulefiles.specs.declared.findings.Finding.{Finding}
use Rattle.hwdb_spec_commands.specs.RuleFindings.{is_told, one_found}
use Rattle.hwdb_check.specs.Internal.{texts}
use Rattle.hwdb_check.proofs.ToldLemmas.{told_step}
use Rattle.hwdb_check.proofs.rules.all_told.Goals as goal

pub loop-finding-preserved : goal.loop-finding-preserved
loop-finding-preserved c =
    let file = c.args.file.now in
    told_step (one_found file.path.now (map text_of file.rows.now)) (λ (f : Finding). is_told (texts file.allowed.now) f.kind) c.args.findings.now c.loop-finding.finding-index
    _ _ _ _ c.loop-finding-test.true c.in_ok-put_if_told.ensures c.loop-finding.invariant
