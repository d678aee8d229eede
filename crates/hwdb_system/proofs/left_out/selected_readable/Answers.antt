use Rattle.std.proofs.Common.{[], inl, inr, map, refl, string_bytes, subst, sym, false, Err, Global, List, Ok, String, Vec, ℕ}
use Rattle.hwdb_plan.specs.Folders.{names_of}
use Rattle.hwdb_plan.specs.Lemmas.Folders.{names_asked}
use Rattle.hwdb_plan.specs.Plans.{ReachesValue}
use Rattle.hwdb_plan.specs.Folders.{texts_of_names}
use Rattle.hwdb_plan.specs.Readable.{GoesOn, ReachesOf, none_left_out, readable_texts}
use Rattle.hwdb_spec.specs.System.{etc_files, usr_files}
use Rattle.hwdb_spec_commands.specs.LeftOutTold.{AreSelectedLess, AreUnreadLess}
use Rattle.hwdb_text.specs.Views.{choice_of}
use Rattle.hwdb_system.proofs.LeftOutLemmas.{whole_selected, whole_unread}
use Rattle.hwdb_system.proofs.ReadableLemmas.{all_read, all_unread, both_listed, first_unlisted, names_reach, second_unlisted}
use Rattle.hwdb_system.proofs.SelectionLemmas.{all_named}
use Rattle.hwdb_system.specs.Lemmas.LeftOut.{any_unread}
use Rattle.hwdb_system.specs.Selections.{IsReadableOf, texts_in}
use Rattle.hwdb_system.specs.declared.left_out.ReadableSelection.{ReadableSelection}
use Rattle.hwdb_system.proofs.left_out.selected_readable.Goals as goal
use Rattle.hwdb_spec.specs.Lemmas.Calls.{given_error}

pub returns-in_err-etc-clause-refused : goal.returns-in_err-etc-clause-refused
returns-in_err-etc-clause-refused g c = λ tells.
    let root = c.args.root.now in
    let seen = g.D.Store.seen c.args.system.now in
    let fails = g.D.System.may_fail c.args.system.now in
    given_error c.in_err-etc.field-0.0 (AreUnreadLess c.args.skip fails root seen) c.from_residual.result c.from_residual.ensures.1
    (whole_unread c.args.skip fails root seen c.in_err-etc.field-0.0 (any_unread c.args.skip root seen c.in_err-etc.field-0.0 (inr (inl c.in_err-etc.ensures.refused))))

pub returns-in_err-usr-clause-refused : goal.returns-in_err-usr-clause-refused
returns-in_err-usr-clause-refused g c = λ tells.
    let root = c.args.root.now in
    let seen = g.D.Store.seen c.args.system.now in
    let fails = g.D.System.may_fail c.args.system.now in
    given_error c.in_err-usr.field-0.0 (AreUnreadLess c.args.skip fails root seen) c.from_residual-in_err-usr.result c.from_residual-in_err-usr.ensures.1
    (whole_unread c.args.skip fails root seen c.in_err-usr.field-0.0 (any_unread c.args.skip root seen c.in_err-usr.field-0.0 (inr (inr (inl c.in_err-usr.ensures.refused)))))

pub returns-in-Ok-clause-selected : goal.returns-in-Ok-clause-selected
returns-in-Ok-clause-selected g c = λ tells.
    let root = c.args.root.now in
    let seen = g.D.Store.seen c.args.system.now in
    subst (λ l. AreSelectedLess c.args.skip (g.D.System.may_fail c.args.system.now) root seen (map string_bytes c.in-Ok.selection.listed.items) (map choice_of c.in-Ok.selection.chosen.items)
    (map (λ t. t.items) c.in-Ok.selection.texts.items) l) (sym c.new.ensures.items)
    (whole_selected c.args.skip (g.D.System.may_fail c.args.system.now) root seen _ _ _
    (c.in-Ok.ensures.selected seen (all_named root seen _ _ _ c.deref.ensures.value (c.in_ok-etc.ensures.names tells) (c.in_ok-usr.ensures.names tells)) tells))

pub returns-clause-refused : goal.returns-clause-refused
returns-clause-refused g c = λ tells.
    let root = c.args.root.now in
    let seen = g.D.Store.seen c.args.system.now in
    let refusal = c.in-Err.refusal in
    whole_unread c.args.skip (g.D.System.may_fail c.args.system.now) root seen refusal (any_unread c.args.skip root seen refusal
    (c.in-Err.ensures.refused seen (all_named root seen _ _ _ c.deref.ensures.value (c.in_ok-etc.ensures.names tells) (c.in_ok-usr.ensures.names tells)) tells))

pub returns-clause-reason : goal.returns-clause-reason
returns-clause-reason g c = λ tells.
    let root = c.args.root.now in
    let seen = g.D.Store.seen c.args.system.now in
    c.in-Err.ensures.reason seen (all_named root seen _ _ _ c.deref.ensures.value (c.in_ok-etc.ensures.names tells) (c.in_ok-usr.ensures.names tells))

pub returns-in_err-etc-clause-follows : goal.returns-in_err-etc-clause-follows
returns-in_err-etc-clause-follows g c = λ tells.
    let w = g.D.System.reads c.args.system.now in
    let root = c.args.root.now in (
      [],
      first_unlisted (IsReadableOf root) w c.args.skip root [] c.in_err-etc.field-0.0 c.from_residual.result
          (names_asked w (λ (v : Vec (String Global) Global). map string_bytes v.items) (etc_files root) (Err c.in_err-etc.field-0.0) (c.in_err-etc.ensures.told tells)) c.from_residual.ensures.1,
    )

pub returns-in_err-usr-clause-follows : goal.returns-in_err-usr-clause-follows
returns-in_err-usr-clause-follows g c = λ tells.
    let w = g.D.System.reads c.args.system.now in
    let root = c.args.root.now in
    let names = λ (v : Vec (String Global) Global). map string_bytes v.items in (
      [],
      second_unlisted (IsReadableOf root) w c.args.skip root [] (names c.in_ok-etc.etc) c.in_err-usr.field-0.0 c.from_residual-in_err-usr.result
          (names_asked w names (etc_files root) (Ok c.in_ok-etc.etc) (c.in_ok-etc.ensures.told tells))
          (names_asked w names (usr_files root) (Err c.in_err-usr.field-0.0) (c.in_err-usr.ensures.told tells)) c.from_residual-in_err-usr.ensures.1,
    )

pub returns-in-Ok-clause-follows : goal.returns-in-Ok-clause-follows
returns-in-Ok-clause-follows g c = λ tells.
    let w = g.D.System.reads c.args.system.now in
    let root = c.args.root.now in
    let seen = g.D.Store.seen c.args.system.now in
    let names = λ (v : Vec (String Global) Global). map string_bytes v.items in
    let etc = map string_bytes c.deref.result.now in
    let usr = names c.in_ok-usr.usr in
    let s = c.in-Ok.selection in
    let r : ReadableSelection = record { selection = s; said = c.new.result } in
    let goes : GoesOn w (names_of (etc_files root)) etc =
    subst (λ (l : List (String Global)). GoesOn w (names_of (etc_files root)) (map string_bytes l)) (sym c.deref.ensures.value) (names_asked w names (etc_files root) (Ok c.in_ok-etc.etc) (c.in_ok-etc.ensures.told tells)) in
    let told : ReachesValue texts_in w (texts_of_names root etc usr) (Ok s) = c.in-Ok.ensures.told tells in
    let selected = c.in-Ok.ensures.selected seen (all_named root seen _ _ _ c.deref.ensures.value (c.in_ok-etc.ensures.names tells) (c.in_ok-usr.ensures.names tells)) tells in (
      [],
      both_listed (IsReadableOf root) w c.args.skip root [] etc usr (Ok r) goes
          (names_asked w names (usr_files root) (Ok c.in_ok-usr.usr) (c.in_ok-usr.ensures.told tells))
          (all_read w root etc usr c.args.skip s r c.in-Ok.ensures.among told (names_reach w root seen etc usr none_left_out (Ok s) told c.in-Ok.ensures.among selected) refl c.new.ensures.items),
    )

pub returns-then-skip-clause-follows : goal.returns-then-skip-clause-follows
returns-then-skip-clause-follows g c = λ tells.
    let w = g.D.System.reads c.args.system.now in
    let root = c.args.root.now in
    subst (λ b. (words : List (List ℕ)) × ReachesOf (IsReadableOf root) w (readable_texts b root words) c.selected_less.result) (sym c.if-skip.true) (c.selected_less.ensures.follows tells)

pub returns-clause-follows : goal.returns-clause-follows
returns-clause-follows g c = λ tells.
    let w = g.D.System.reads c.args.system.now in
    let root = c.args.root.now in
    let names = λ (v : Vec (String Global) Global). map string_bytes v.items in
    let etc = map string_bytes c.deref.result.now in
    let usr = names c.in_ok-usr.usr in
    let refusal = c.in-Err.refusal in
    let goes : GoesOn w (names_of (etc_files root)) etc =
    subst (λ (l : List (String Global)). GoesOn w (names_of (etc_files root)) (map string_bytes l)) (sym c.deref.ensures.value) (names_asked w names (etc_files root) (Ok c.in_ok-etc.etc) (c.in_ok-etc.ensures.told tells)) in
    let ends : ReachesOf (IsReadableOf root) w (readable_texts false root []) (Err refusal) =
    both_listed (IsReadableOf root) w false root [] etc usr (Err refusal) goes
    (names_asked w names (usr_files root) (Ok c.in_ok-usr.usr) (c.in_ok-usr.ensures.told tells))
    (all_unread w root etc usr refusal (c.in-Err.ensures.told tells)) in
    ([], subst (λ b. ReachesOf (IsReadableOf root) w (readable_texts b root []) (Err refusal)) (sym c.if-skip.false) ends)
