use Rattle.std.proofs.Common.{◌≡◌, ap, if◌then◌else◌, option_map, subst, sym, ◌∙◌, Global, Ok, Vec, ℕ}
use Rattle.hwdb_system.specs.Lemmas.OverReads.{present_as}
use Rattle.hwdb_system.specs.Raw.{present, told_bytes}
use Rattle.hwdb_spec_commands.specs.Told.{IsReadTo, IsUnreadAs}
use Rattle.std.specs.Prelude.{Some}
use Rattle.hwdb_spec.specs.Lemmas.Calls.{each_error, each_value}
use Rattle.hwdb_system.proofs.OverlayLemmas.{both_errors, copied_plain, copied_reason, copied_unread, looking_reason, unread_over}
use Rattle.hwdb_system.specs.Lemmas.OverNames.{same_at, there_at}
use Rattle.hwdb_system.proofs.overlay.OverlaySystem.database.Goals as goal

pub returns-in-Ok-clause-bytes : goal.returns-in-Ok-clause-bytes
returns-in-Ok-clause-bytes g c = λ tells.
    let root = c.args.self.now.root.now in
    let made = c.args.self.now.bytes.now in
    let files = g.D.Store.seen c.args.self.now.system.now in
    there_at root made files c.args.path.now (sym c.is_database.ensures ∙ c.if-is_database.true) ∙ ap Some (sym c.in-Ok.ensures.bytes)

pub returns-in-Err-clause-refused : goal.returns-in-Err-clause-refused
returns-in-Err-clause-refused g c =
    let root = c.args.self.now.root.now in
    let made = c.args.self.now.bytes.now in
    let files = g.D.Store.seen c.args.self.now.system.now in
    copied_plain root made files c.args.path.now c.in-Err.refusal c.in-Err.ensures.refused

pub returns-in-Err-clause-unread : goal.returns-in-Err-clause-unread
returns-in-Err-clause-unread g c = λ tells.
    let root = c.args.self.now.root.now in
    let made = c.args.self.now.bytes.now in
    let files = g.D.Store.seen c.args.self.now.system.now in
    copied_unread root made files c.args.path.now c.in-Err.refusal (sym c.is_database.ensures ∙ c.if-is_database.true) c.in-Err.ensures.refused

pub returns-in-Err-clause-reason : goal.returns-in-Err-clause-reason
returns-in-Err-clause-reason g c =
    let root = c.args.self.now.root.now in
    let made = c.args.self.now.bytes.now in
    let files = g.D.Store.seen c.args.self.now.system.now in
    copied_reason root made files (g.D.System.may_fail c.args.self.now.system.now) c.args.path.now c.in-Err.refusal (sym c.is_database.ensures ∙ c.if-is_database.true) c.in-Err.ensures.refused

pub returns-clause-bytes : goal.returns-clause-bytes
returns-clause-bytes g c = λ tells.
    let root = c.args.self.now.root.now in
    let made = c.args.self.now.bytes.now in
    let files = g.D.Store.seen c.args.self.now.system.now in
    each_value _ _ c.database.result (λ found is. same_at root made files c.args.path.now (sym c.is_database.ensures ∙ c.if-is_database.false) ∙ is) (c.database.ensures.bytes tells)

pub returns-clause-unread : goal.returns-clause-unread
returns-clause-unread g c = λ tells.
    let root = c.args.self.now.root.now in
    let made = c.args.self.now.bytes.now in
    let files = g.D.Store.seen c.args.self.now.system.now in
    each_error _ _ c.database.result (λ r is. unread_over root made files c.args.path.now r (sym c.is_database.ensures ∙ c.if-is_database.false) is) (c.database.ensures.unread tells)

pub returns-clause-reason : goal.returns-clause-reason
returns-clause-reason g c =
    let root = c.args.self.now.root.now in
    let made = c.args.self.now.bytes.now in
    let files = g.D.Store.seen c.args.self.now.system.now in
    both_errors _ _ _ c.database.result (λ r unread has. looking_reason root made files (g.D.System.may_fail c.args.self.now.system.now) c.args.path.now r (sym c.is_database.ensures ∙ c.if-is_database.false) unread has) c.database.ensures.refused c.database.ensures.reason

pub returns-in-Ok-clause-told : goal.returns-in-Ok-clause-told
returns-in-Ok-clause-told g c = λ tells.
    let w = g.D.System.reads c.args.self.now.system.now in
    subst (λ b. (if b then present (told_bytes c.args.self.now.bytes.now) else w.database c.args.path.now) ≡ Ok (Some c.in-Ok.bytes.items))
    (sym (sym c.is_database.ensures ∙ c.if-is_database.true)) (ap present c.in-Ok.ensures.told)

pub returns-in-Err-clause-told : goal.returns-in-Err-clause-told
returns-in-Err-clause-told g c = λ tells.
    let w = g.D.System.reads c.args.self.now.system.now in
    subst (λ b. IsUnreadAs (if b then present (told_bytes c.args.self.now.bytes.now) else w.database c.args.path.now) c.args.path.now c.in-Err.refusal)
    (sym (sym c.is_database.ensures ∙ c.if-is_database.true)) (present_as (told_bytes c.args.self.now.bytes.now) c.args.path.now c.in-Err.refusal c.in-Err.ensures.told)

pub returns-clause-told : goal.returns-clause-told
returns-clause-told g c = λ tells.
    let w = g.D.System.reads c.args.self.now.system.now in
    subst (λ b. IsReadTo (λ found. option_map (λ (v : Vec ℕ Global). v.items) found) (if b then present (told_bytes c.args.self.now.bytes.now) else w.database c.args.path.now) c.args.path.now c.database.result)
    (sym (sym c.is_database.ensures ∙ c.if-is_database.false)) (c.database.ensures.told tells)
