use Rattle.std.proofs.Common.{◌≡◌, ◌∙◌, ap, false, if◌then◌else◌, subst, sym, IfOk, None, Ok}
use Rattle.std.specs.Prelude.{is_some}
use Rattle.hwdb_spec.specs.Lemmas.Calls.{each_value}
use Rattle.hwdb_system.specs.Raw.{present, told_bytes}
use Rattle.hwdb_system.specs.Lemmas.OverNames.{same_at, there_at}
use Rattle.hwdb_system.proofs.overlay.OverlaySystem.is_there.Goals as goal

pub returns-then-is_database-clause-there : goal.returns-then-is_database-clause-there
returns-then-is_database-clause-there g c = λ tells.
    let root = c.args.self.now.root.now in
    let made = c.args.self.now.bytes.now in
    let files = g.D.Store.seen c.args.self.now.system.now in
    sym (ap is_some (there_at root made files c.args.path.now (sym c.is_database.ensures ∙ c.if-is_database.true)))

pub returns-clause-there : goal.returns-clause-there
returns-clause-there g c = λ tells.
    let root = c.args.self.now.root.now in
    let made = c.args.self.now.bytes.now in
    let files = g.D.Store.seen c.args.self.now.system.now in
    each_value _ _ c.is_there.result (λ there is. is ∙ sym (ap is_some (same_at root made files c.args.path.now (sym c.is_database.ensures ∙ c.if-is_database.false)))) (c.is_there.ensures.there tells)

pub returns-clause-told : goal.returns-clause-told
returns-clause-told g c = λ tells.
    let w = g.D.System.reads c.args.self.now.system.now in
    subst (λ b. IfOk c.is_there.result (λ there. there ≡ false → (if b then present (told_bytes c.args.self.now.bytes.now) else w.database c.args.path.now) ≡ Ok None))
    (sym (sym c.is_database.ensures ∙ c.if-is_database.false)) (c.is_there.ensures.told tells)
