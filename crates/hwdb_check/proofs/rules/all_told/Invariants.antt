use Rattle.std.proofs.Common.{◌≡◌, ◌++◌, drop, map}
use Rattle.std.specs.Prelude.{filter, flat_map}
use Rattle.hwdb_rulefiles.specs.Views.{text_of}
use Rattle.hwdb_spec_commands.specs.RuleFindings.{is_told, one_found}
use Rattle.hwdb_check.specs.Found.{finds}
use Rattle.hwdb_check.specs.Internal.{texts}
use Rattle.hwdb_check.proofs.rules.all_told.Given as goal

abbrev pub invariant-loop-finding : goal.invariant-loop-finding
invariant-loop-finding l =
    let told = filter (λ f. is_told (texts l.file.allowed.now) f.kind) in
    let found = flat_map (one_found l.file.path.now (map text_of l.file.rows.now)) in
    finds l.all.items ++ found (told (drop l.finding-index l.findings)) ≡ found (told l.findings)
