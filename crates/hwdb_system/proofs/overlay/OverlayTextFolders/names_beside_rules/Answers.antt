use Rattle.std.proofs.Common.{map}
use Rattle.hwdb_spec_commands.specs.RulePaths.{rules_folder}
use Rattle.hwdb_spec.specs.Lemmas.Calls.{each_value}
use Rattle.hwdb_system.proofs.OverlayLemmas.{both_errors, listing_reason}
use Rattle.hwdb_system.specs.Lemmas.OverNames.{rules_folder_apart, rules_over}
use Rattle.hwdb_system.proofs.overlay.OverlayTextFolders.names_beside_rules.Goals as goal

pub returns-clause-names : goal.returns-clause-names
returns-clause-names g c = λ tells.
    let root = c.args.self.now.root.now in
    let made = c.args.self.now.bytes.now in
    let files = g.D.Store.seen c.args.self.now.system.now in
    each_value _ _ c.names_beside_rules.result (λ names are. rules_over root made files c.args.root.now c.args.folder (map (λ n. n.items) names.items) are) (c.names_beside_rules.ensures.names tells)

pub returns-clause-reason : goal.returns-clause-reason
returns-clause-reason g c =
    let root = c.args.self.now.root.now in
    let made = c.args.self.now.bytes.now in
    let files = g.D.Store.seen c.args.self.now.system.now in
    let folder = rules_folder c.args.root.now c.args.folder in
    both_errors _ _ _ c.names_beside_rules.result
    (λ r unlisted has. listing_reason root made files (g.D.System.may_fail c.args.self.now.system.now) folder r (rules_folder_apart root made files c.args.root.now c.args.folder) unlisted has)
    c.names_beside_rules.ensures.refused c.names_beside_rules.ensures.reason
