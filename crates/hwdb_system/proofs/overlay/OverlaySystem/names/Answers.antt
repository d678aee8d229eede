use Rattle.std.proofs.Common.{map, string_bytes, sym, ◌∙◌}
use Rattle.hwdb_spec.specs.Lemmas.Calls.{each_value}
use Rattle.hwdb_system.proofs.OverlayLemmas.{both_errors, kept_told, kept_value, listing_reason}
use Rattle.hwdb_system.specs.Lemmas.OverNames.{names_over}
use Rattle.hwdb_system.proofs.overlay.OverlaySystem.names.Goals as goal

pub returns-then-is_database-clause-names : goal.returns-then-is_database-clause-names
returns-then-is_database-clause-names g c = λ tells.
    let root = c.args.self.now.root.now in
    let made = c.args.self.now.bytes.now in
    let files = g.D.Store.seen c.args.self.now.system.now in
    kept_value _ _ c.names-listed.result c.listed_or_none.result (λ names are. names_over root made files c.args.folder.now (map string_bytes names.items) are) c.listed_or_none.ensures.same (c.names-listed.ensures.names tells)

pub returns-clause-names : goal.returns-clause-names
returns-clause-names g c = λ tells.
    let root = c.args.self.now.root.now in
    let made = c.args.self.now.bytes.now in
    let files = g.D.Store.seen c.args.self.now.system.now in
    each_value _ _ c.names-listed.result (λ names are. names_over root made files c.args.folder.now (map string_bytes names.items) are) (c.names-listed.ensures.names tells)

pub returns-clause-reason : goal.returns-clause-reason
returns-clause-reason g c =
    let root = c.args.self.now.root.now in
    let made = c.args.self.now.bytes.now in
    let files = g.D.Store.seen c.args.self.now.system.now in
    both_errors _ _ _ c.names-listed.result (λ r unlisted has. listing_reason root made files (g.D.System.may_fail c.args.self.now.system.now) c.args.folder.now r (sym c.is_database.ensures ∙ c.if-is_database.false) unlisted has) c.names-listed.ensures.refused c.names-listed.ensures.reason

pub returns-then-is_database-clause-told : goal.returns-then-is_database-clause-told
returns-then-is_database-clause-told g c = λ tells.
    let w = g.D.System.reads c.args.self.now.system.now in
    kept_told (λ names. map string_bytes names.items) (w.names c.args.folder.now) c.args.folder.now c.names-listed.result c.listed_or_none.result c.listed_or_none.ensures.same c.listed_or_none.ensures.memory
    (c.names-listed.ensures.told tells)
