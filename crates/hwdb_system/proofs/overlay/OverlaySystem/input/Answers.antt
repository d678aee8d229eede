use Rattle.std.proofs.Common.{ap, if◌then◌else◌, subst, sym, ◌∙◌, Global, Vec, ℕ}
use Rattle.hwdb_system.specs.Raw.{told_bytes}
use Rattle.hwdb_spec_commands.specs.Told.{IsReadTo}
use Rattle.std.specs.Prelude.{Some}
use Rattle.hwdb_spec_commands.specs.Refusals.{IsUnreadable}
use Rattle.hwdb_spec.specs.Lemmas.Calls.{each_error, each_value}
use Rattle.hwdb_system.proofs.OverlayLemmas.{both_errors, copied_plain, copied_reason, copied_unread, reading_reason, unread_over}
use Rattle.hwdb_system.specs.Lemmas.OverNames.{same_at, shown, there_at}
use Rattle.hwdb_system.proofs.overlay.OverlaySystem.input.Goals as goal

pub returns-then-is_database-clause-bytes : goal.returns-then-is_database-clause-bytes
returns-then-is_database-clause-bytes g c = λ tells.
    let root = c.args.self.now.root.now in
    let made = c.args.self.now.bytes.now in
    let files = g.D.Store.seen c.args.self.now.system.now in
    each_value _ _ c.copy.result (λ bytes is. there_at root made files c.args.path.now (sym c.is_database.ensures ∙ c.if-is_database.true) ∙ ap Some (sym is)) c.copy.ensures.bytes

pub returns-then-is_database-clause-refused : goal.returns-then-is_database-clause-refused
returns-then-is_database-clause-refused g c =
    let root = c.args.self.now.root.now in
    let made = c.args.self.now.bytes.now in
    let files = g.D.Store.seen c.args.self.now.system.now in
    each_error _ _ c.copy.result (λ r long. copied_plain root made files c.args.path.now r long) c.copy.ensures.refused

pub returns-then-is_database-clause-unread : goal.returns-then-is_database-clause-unread
returns-then-is_database-clause-unread g c = λ tells.
    let root = c.args.self.now.root.now in
    let made = c.args.self.now.bytes.now in
    let files = g.D.Store.seen c.args.self.now.system.now in
    each_error _ _ c.copy.result (λ r long. copied_unread root made files c.args.path.now r (sym c.is_database.ensures ∙ c.if-is_database.true) long) c.copy.ensures.refused

pub returns-then-is_database-clause-reason : goal.returns-then-is_database-clause-reason
returns-then-is_database-clause-reason g c =
    let root = c.args.self.now.root.now in
    let made = c.args.self.now.bytes.now in
    let files = g.D.Store.seen c.args.self.now.system.now in
    let fails = g.D.System.may_fail c.args.self.now.system.now in
    each_error _ _ c.copy.result (λ r long. copied_reason root made files (IsUnreadable fails (shown root made files)) c.args.path.now r (sym c.is_database.ensures ∙ c.if-is_database.true) long) c.copy.ensures.refused

pub returns-clause-bytes : goal.returns-clause-bytes
returns-clause-bytes g c = λ tells.
    let root = c.args.self.now.root.now in
    let made = c.args.self.now.bytes.now in
    let files = g.D.Store.seen c.args.self.now.system.now in
    each_value _ _ c.input.result (λ bytes is. same_at root made files c.args.path.now (sym c.is_database.ensures ∙ c.if-is_database.false) ∙ is) (c.input.ensures.bytes tells)

pub returns-clause-unread : goal.returns-clause-unread
returns-clause-unread g c = λ tells.
    let root = c.args.self.now.root.now in
    let made = c.args.self.now.bytes.now in
    let files = g.D.Store.seen c.args.self.now.system.now in
    each_error _ _ c.input.result (λ r is. unread_over root made files c.args.path.now r (sym c.is_database.ensures ∙ c.if-is_database.false) is) (c.input.ensures.unread tells)

pub returns-clause-reason : goal.returns-clause-reason
returns-clause-reason g c =
    let root = c.args.self.now.root.now in
    let made = c.args.self.now.bytes.now in
    let files = g.D.Store.seen c.args.self.now.system.now in
    both_errors _ _ _ c.input.result (λ r unread has. reading_reason root made files (g.D.System.may_fail c.args.self.now.system.now) c.args.path.now r (sym c.is_database.ensures ∙ c.if-is_database.false) unread has) c.input.ensures.refused c.input.ensures.reason

pub returns-then-is_database-clause-told : goal.returns-then-is_database-clause-told
returns-then-is_database-clause-told g c = λ tells.
    let w = g.D.System.reads c.args.self.now.system.now in
    subst (λ b. IsReadTo (λ (v : Vec ℕ Global). v.items) (if b then told_bytes c.args.self.now.bytes.now else w.input c.args.path.now) c.args.path.now c.copy.result)
    (sym (sym c.is_database.ensures ∙ c.if-is_database.true)) c.copy.ensures.told

pub returns-clause-told : goal.returns-clause-told
returns-clause-told g c = λ tells.
    let w = g.D.System.reads c.args.self.now.system.now in
    subst (λ b. IsReadTo (λ (v : Vec ℕ Global). v.items) (if b then told_bytes c.args.self.now.bytes.now else w.input c.args.path.now) c.args.path.now c.input.result)
    (sym (sym c.is_database.ensures ∙ c.if-is_database.false)) (c.input.ensures.told tells)
