use Rattle.std.proofs.Common.{map}
use Rattle.hwdb_spec_commands.specs.Ignored.{text_folder}
use Rattle.hwdb_spec.specs.Lemmas.Calls.{each_value}
use Rattle.hwdb_system.proofs.OverlayLemmas.{both_errors, listing_reason}
use Rattle.hwdb_system.specs.Lemmas.OverNames.{ignored_over, text_folder_apart}
use Rattle.hwdb_system.proofs.overlay.OverlayTextFolders.ignored_names.Goals as goal

pub returns-clause-names : goal.returns-clause-names
returns-clause-names g c = λ tells.
    let root = c.args.self.now.root.now in
    let made = c.args.self.now.bytes.now in
    let files = g.D.Store.seen c.args.self.now.system.now in
    each_value _ _ c.ignored_names.result (λ names are. ignored_over root made files c.args.usr c.args.root.now (map (λ n. n.items) names.items) are) (c.ignored_names.ensures.names tells)

pub returns-clause-reason : goal.returns-clause-reason
returns-clause-reason g c =
    let root = c.args.self.now.root.now in
    let made = c.args.self.now.bytes.now in
    let files = g.D.Store.seen c.args.self.now.system.now in
    let folder = text_folder c.args.usr c.args.root.now in
    both_errors _ _ _ c.ignored_names.result
    (λ r unlisted has. listing_reason root made files (g.D.System.may_fail c.args.self.now.system.now) folder r (text_folder_apart root made files c.args.usr c.args.root.now) unlisted has)
    c.ignored_names.ensures.refused c.ignored_names.ensures.reason
