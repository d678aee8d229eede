use Rattle.std.proofs.Common.{◌∙◌, Bool, List, ap, map, subst}
use Rattle.std.specs.Prelude.{string_bytes}
use Rattle.hwdb_spec_commands.specs.RuleFindings.{findings_of}
use Rattle.hwdb_spec_commands.specs.Findings.{Finding}
use Rattle.hwdb_spec_commands.specs.Patches.{is_ended, tried}
use Rattle.hwdb_check.specs.Found.{finds}
use Rattle.hwdb_check.specs.Patching.{IsMended}
use Rattle.hwdb_check.proofs.sure.mend_file.Goals as goal

pub returns-clause-mended : goal.returns-clause-mended
returns-clause-mended c =
    let told = findings_of c.args.telling.now.format (map string_bytes c.args.telling.now.allowed.now) c.args.path.now in
    let bytes = c.args.bytes.now in
    let m = c.in_ok-tried.field-0 in
    subst (λ (fs : List Finding). IsMended (tried told (is_ended bytes) bytes fs) m) (ap finds c.deref.ensures.value ∙ c.in_ok-seen.ensures.found)
    (subst (λ (e : Bool). IsMended (tried told e bytes (finds c.deref.result.now)) m) c.is_ended.ensures c.in_ok-tried.ensures)
