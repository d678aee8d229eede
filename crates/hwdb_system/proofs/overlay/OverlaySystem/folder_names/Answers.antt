use Rattle.std.proofs.Common.{ap, if◌then◌else◌, map, string_bytes, subst, sym, Global, None, Ok, Option, String, Vec, ◌∙◌}
use Rattle.std.specs.Prelude.{is_some, option_map}
use Rattle.hwdb_spec_commands.specs.Told.{IsListedTo}
use Rattle.hwdb_spec.specs.Lemmas.Calls.{each_error, each_value}
use Rattle.hwdb_system.proofs.OverlayLemmas.{both_errors, listing_reason, unlisted_over}
use Rattle.hwdb_system.specs.Lemmas.OverNames.{folder_over, there_at}
use Rattle.hwdb_system.proofs.overlay.OverlaySystem.folder_names.Goals as goal

pub returns-then-is_database-clause-names : goal.returns-then-is_database-clause-names
returns-then-is_database-clause-names g c = λ tells.
    let root = c.args.self.now.root.now in
    let made = c.args.self.now.bytes.now in
    let files = g.D.Store.seen c.args.self.now.system.now in
    ap is_some (there_at root made files c.args.path.now (sym c.is_database.ensures ∙ c.if-is_database.true))

pub returns-clause-names : goal.returns-clause-names
returns-clause-names g c = λ tells.
    let root = c.args.self.now.root.now in
    let made = c.args.self.now.bytes.now in
    let files = g.D.Store.seen c.args.self.now.system.now in
    each_value _ _ c.folder_names.result (λ found at. folder_over root made files c.args.path.now (option_map (λ names. map string_bytes names.items) found) (sym c.is_database.ensures ∙ c.if-is_database.false) at) (c.folder_names.ensures.names tells)

pub returns-clause-folder : goal.returns-clause-folder
returns-clause-folder g c = λ tells.
    let root = c.args.self.now.root.now in
    let made = c.args.self.now.bytes.now in
    let files = g.D.Store.seen c.args.self.now.system.now in
    each_error _ _ c.folder_names.result (λ r is. unlisted_over root made files c.args.path.now r (sym c.is_database.ensures ∙ c.if-is_database.false) is) (c.folder_names.ensures.folder tells)

pub returns-clause-reason : goal.returns-clause-reason
returns-clause-reason g c =
    let root = c.args.self.now.root.now in
    let made = c.args.self.now.bytes.now in
    let files = g.D.Store.seen c.args.self.now.system.now in
    both_errors _ _ _ c.folder_names.result (λ r unlisted has. listing_reason root made files (g.D.System.may_fail c.args.self.now.system.now) c.args.path.now r (sym c.is_database.ensures ∙ c.if-is_database.false) unlisted has) c.folder_names.ensures.refused c.folder_names.ensures.reason

pub returns-then-is_database-clause-told : goal.returns-then-is_database-clause-told
returns-then-is_database-clause-told g c = λ tells.
    let w = g.D.System.reads c.args.self.now.system.now in
    ap (λ b. if b then Ok None else w.folder c.args.path.now) (sym c.is_database.ensures ∙ c.if-is_database.true)

pub returns-clause-told : goal.returns-clause-told
returns-clause-told g c = λ tells.
    let w = g.D.System.reads c.args.self.now.system.now in
    subst (λ b. IsListedTo (λ (found : Option (Vec (String Global) Global)). option_map (λ names. map string_bytes names.items) found) (if b then Ok None else w.folder c.args.path.now) c.args.path.now c.folder_names.result)
    (sym (sym c.is_database.ensures ∙ c.if-is_database.false)) (c.folder_names.ensures.told tells)
