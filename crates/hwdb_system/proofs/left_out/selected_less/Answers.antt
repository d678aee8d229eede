use Rattle.std.proofs.Common.{[], ◌∙◌, ap, refl, map, string_bytes, subst, sym, true, Err, Global, Ok, String, Vec}
use Rattle.hwdb_spec_commands.specs.LeftOutTold.{AreUnreadLess}
use Rattle.hwdb_spec_commands.specs.Refusals.{HasReason}
use Rattle.hwdb_system.proofs.LeftOutLemmas.{less_unread, selected_among, whole_unread}
use Rattle.hwdb_system.proofs.SelectionLemmas.{both_named}
use Rattle.hwdb_plan.specs.Folders.{choose}
use Rattle.hwdb_plan.specs.Lemmas.Folders.{names_asked}
use Rattle.hwdb_plan.specs.Readable.{EndsEarly, GoesOn, ReachesOf, look, none_left_out, others, read_names}
use Rattle.hwdb_spec.specs.System.{etc_files, usr_files}
use Rattle.hwdb_system.proofs.ReadableLemmas.{both_listed, first_unlisted, left_read, left_unread, second_unlisted, unlooked}
use Rattle.hwdb_system.specs.Selections.{IsReadableOf, IsSelectionBut}
use Rattle.hwdb_system.specs.declared.left_out.ReadableSelection.{ReadableSelection}
use Rattle.hwdb_system.proofs.left_out.selected_less.Goals as goal
use Rattle.hwdb_spec.specs.Lemmas.Calls.{given_error}

pub returns-in_err-found-clause-refused : goal.returns-in_err-found-clause-refused
returns-in_err-found-clause-refused g c = λ tells.
    let root = c.args.root.now in
    let seen = g.D.Store.seen c.args.system.now in
    let fails = g.D.System.may_fail c.args.system.now in
    given_error c.in_err-found.field-0.0 (AreUnreadLess true fails root seen) c.from_residual-in_err-found.result c.from_residual-in_err-found.ensures.1
    (whole_unread true fails root seen c.in_err-found.field-0.0 (c.in_err-found.ensures.refused
    (both_named root seen _ _ _ _ c.deref.ensures.value c.deref-2.ensures.value (c.in_ok-etc.ensures.names tells) (c.in_ok-usr.ensures.names tells))))

pub returns-in_err-found-clause-reason : goal.returns-in_err-found-clause-reason
returns-in_err-found-clause-reason g c = λ tells.
    let seen = g.D.Store.seen c.args.system.now in
    given_error c.in_err-found.field-0.0 (HasReason (g.D.System.may_fail c.args.system.now) ⊥ seen) c.from_residual-in_err-found.result c.from_residual-in_err-found.ensures.1
    (c.in_err-found.ensures.reason
    (both_named c.args.root.now seen _ _ _ _ c.deref.ensures.value c.deref-2.ensures.value (c.in_ok-etc.ensures.names tells) (c.in_ok-usr.ensures.names tells)))

pub returns-in_err-selection-clause-refused : goal.returns-in_err-selection-clause-refused
returns-in_err-selection-clause-refused g c = λ tells.
    let root = c.args.root.now in
    let seen = g.D.Store.seen c.args.system.now in
    let fails = g.D.System.may_fail c.args.system.now in
    let in_etc = c.in_ok-etc.ensures.names tells in
    let in_usr = c.in_ok-usr.ensures.names tells in
    given_error c.in_err-selection.field-0.0 (AreUnreadLess true fails root seen) c.from_residual-in_err-selection.result c.from_residual-in_err-selection.ensures.1
    (less_unread fails root seen _ _ _ c.in_err-selection.field-0.0
    (c.in_ok-found.ensures.found (both_named root seen _ _ _ _ c.deref.ensures.value c.deref-2.ensures.value in_etc in_usr))
    (ap (map string_bytes) c.deref-5.ensures.value)
    (c.in_err-selection.ensures.refused (both_named root seen _ _ _ _ c.deref-3.ensures.value c.deref-4.ensures.value in_etc in_usr) tells))

pub returns-in_err-selection-clause-reason : goal.returns-in_err-selection-clause-reason
returns-in_err-selection-clause-reason g c = λ tells.
    let seen = g.D.Store.seen c.args.system.now in
    given_error c.in_err-selection.field-0.0 (HasReason (g.D.System.may_fail c.args.system.now) ⊥ seen) c.from_residual-in_err-selection.result c.from_residual-in_err-selection.ensures.1
    (c.in_err-selection.ensures.reason
    (both_named c.args.root.now seen _ _ _ _ c.deref-3.ensures.value c.deref-4.ensures.value (c.in_ok-etc.ensures.names tells) (c.in_ok-usr.ensures.names tells)))

pub returns-clause-selected : goal.returns-clause-selected
returns-clause-selected g c = λ tells.
    let root = c.args.root.now in
    let seen = g.D.Store.seen c.args.system.now in
    let in_etc = c.in_ok-etc.ensures.names tells in
    let in_usr = c.in_ok-usr.ensures.names tells in
    selected_among (g.D.System.may_fail c.args.system.now) root seen _ _ _ _ _ _
    (c.in_ok-found.ensures.found (both_named root seen _ _ _ _ c.deref.ensures.value c.deref-2.ensures.value in_etc in_usr))
    (ap (map string_bytes) c.deref-5.ensures.value)
    (c.in_ok-selection.ensures.selected (both_named root seen _ _ _ _ c.deref-3.ensures.value c.deref-4.ensures.value in_etc in_usr) tells)

pub returns-in_err-etc-clause-follows : goal.returns-in_err-etc-clause-follows
returns-in_err-etc-clause-follows g c = λ tells.
    let w = g.D.System.reads c.args.system.now in
    let root = c.args.root.now in (
      [],
      first_unlisted (IsReadableOf root) w true root [] c.in_err-etc.field-0.0 c.from_residual.result
          (names_asked w (λ (v : Vec (String Global) Global). map string_bytes v.items) (etc_files root) (Err c.in_err-etc.field-0.0) (c.in_err-etc.ensures.told tells)) c.from_residual.ensures.1,
    )

pub returns-in_err-usr-clause-follows : goal.returns-in_err-usr-clause-follows
returns-in_err-usr-clause-follows g c = λ tells.
    let w = g.D.System.reads c.args.system.now in
    let root = c.args.root.now in
    let names = λ (v : Vec (String Global) Global). map string_bytes v.items in (
      [],
      second_unlisted (IsReadableOf root) w true root [] (names c.in_ok-etc.etc) c.in_err-usr.field-0.0 c.from_residual-in_err-usr.result
          (names_asked w names (etc_files root) (Ok c.in_ok-etc.etc) (c.in_ok-etc.ensures.told tells))
          (names_asked w names (usr_files root) (Err c.in_err-usr.field-0.0) (c.in_err-usr.ensures.told tells)) c.from_residual-in_err-usr.ensures.1,
    )

pub returns-in_err-found-clause-follows : goal.returns-in_err-found-clause-follows
returns-in_err-found-clause-follows g c = λ tells.
    let w = g.D.System.reads c.args.system.now in
    let root = c.args.root.now in
    let names = λ (v : Vec (String Global) Global). map string_bytes v.items in
    let etc = names c.in_ok-etc.etc in
    let usr = names c.in_ok-usr.usr in
    let found = c.in_err-found.ensures.follows tells in
    let early : EndsEarly w (λ next. choose etc usr (λ chosen. look root chosen found.0 none_left_out next)) c.in_err-found.field-0.0 =
    subst (λ l. EndsEarly w (λ next. choose (map string_bytes l) usr (λ chosen. look root chosen found.0 none_left_out next)) c.in_err-found.field-0.0) c.deref.ensures.value
    (subst (λ l. EndsEarly w (λ next. choose (map string_bytes c.deref.result.now) (map string_bytes l) (λ chosen. look root chosen found.0 none_left_out next)) c.in_err-found.field-0.0) c.deref-2.ensures.value found.1) in (
      found.0,
      both_listed (IsReadableOf root) w true root found.0 etc usr c.from_residual-in_err-found.result
          (names_asked w names (etc_files root) (Ok c.in_ok-etc.etc) (c.in_ok-etc.ensures.told tells))
          (names_asked w names (usr_files root) (Ok c.in_ok-usr.usr) (c.in_ok-usr.ensures.told tells))
          (unlooked w root found.0 etc usr (IsReadableOf root) c.in_err-found.field-0.0 c.from_residual-in_err-found.result early c.from_residual-in_err-found.ensures.1),
    )

pub returns-in_err-selection-clause-follows : goal.returns-in_err-selection-clause-follows
returns-in_err-selection-clause-follows g c = λ tells.
    let w = g.D.System.reads c.args.system.now in
    let root = c.args.root.now in
    let seen = g.D.Store.seen c.args.system.now in
    let names = λ (v : Vec (String Global) Global). map string_bytes v.items in
    let etc = names c.in_ok-etc.etc in
    let usr = names c.in_ok-usr.usr in
    let found = c.in_ok-found.ensures.follows tells in
    let left = found.1.0 in
    let r = c.in_err-selection.field-0.0 in
    let goes : GoesOn w (λ next. choose etc usr (λ chosen. look root chosen found.0 none_left_out next)) left =
    subst (λ l. GoesOn w (λ next. choose (map string_bytes l) usr (λ chosen. look root chosen found.0 none_left_out next)) left) c.deref.ensures.value
    (subst (λ l. GoesOn w (λ next. choose (map string_bytes c.deref.result.now) (map string_bytes l) (λ chosen. look root chosen found.0 none_left_out next)) left) c.deref-2.ensures.value found.1.2) in
    let early : EndsEarly w (read_names root (others left.files etc) (others left.files usr) left) r =
    subst (λ l. EndsEarly w (read_names root (others left.files (map string_bytes l)) (others left.files usr) left) r) c.deref-3.ensures.value
    (subst (λ l. EndsEarly w (read_names root (others left.files (map string_bytes c.deref-3.result.now)) (others left.files (map string_bytes l)) left) r) c.deref-4.ensures.value
    (c.in_err-selection.ensures.follows
    (both_named root seen _ _ _ _ c.deref-3.ensures.value c.deref-4.ensures.value (c.in_ok-etc.ensures.names tells) (c.in_ok-usr.ensures.names tells))
    tells left (found.1.1.named ∙ ap (map string_bytes) (sym c.deref-5.ensures.value)))) in (
      found.0,
      both_listed (IsReadableOf root) w true root found.0 etc usr c.from_residual-in_err-selection.result
          (names_asked w names (etc_files root) (Ok c.in_ok-etc.etc) (c.in_ok-etc.ensures.told tells))
          (names_asked w names (usr_files root) (Ok c.in_ok-usr.usr) (c.in_ok-usr.ensures.told tells))
          (left_unread w root found.0 etc usr (IsReadableOf root) left r c.from_residual-in_err-selection.result goes early c.from_residual-in_err-selection.ensures.1),
    )

pub returns-clause-follows : goal.returns-clause-follows
returns-clause-follows g c = λ tells.
    let w = g.D.System.reads c.args.system.now in
    let root = c.args.root.now in
    let seen = g.D.Store.seen c.args.system.now in
    let names = λ (v : Vec (String Global) Global). map string_bytes v.items in
    let etc = names c.in_ok-etc.etc in
    let usr = names c.in_ok-usr.usr in
    let found = c.in_ok-found.ensures.follows tells in
    let left = found.1.0 in
    let s = c.in_ok-selection.selection in
    let r : ReadableSelection = record { selection = s; said = c.in_ok-found.found.said } in
    let goes : GoesOn w (λ next. choose etc usr (λ chosen. look root chosen found.0 none_left_out next)) left =
    subst (λ l. GoesOn w (λ next. choose (map string_bytes l) usr (λ chosen. look root chosen found.0 none_left_out next)) left) c.deref.ensures.value
    (subst (λ l. GoesOn w (λ next. choose (map string_bytes c.deref.result.now) (map string_bytes l) (λ chosen. look root chosen found.0 none_left_out next)) left) c.deref-2.ensures.value found.1.2) in
    let reads : ReachesOf (IsSelectionBut left) w (read_names root (others left.files etc) (others left.files usr) left) (Ok s) =
    subst (λ l. ReachesOf (IsSelectionBut left) w (read_names root (others left.files (map string_bytes l)) (others left.files usr) left) (Ok s)) c.deref-3.ensures.value
    (subst (λ l. ReachesOf (IsSelectionBut left) w (read_names root (others left.files (map string_bytes c.deref-3.result.now)) (others left.files (map string_bytes l)) left) (Ok s)) c.deref-4.ensures.value
    (c.in_ok-selection.ensures.follows
    (both_named root seen _ _ _ _ c.deref-3.ensures.value c.deref-4.ensures.value (c.in_ok-etc.ensures.names tells) (c.in_ok-usr.ensures.names tells))
    tells left (found.1.1.named ∙ ap (map string_bytes) (sym c.deref-5.ensures.value)))) in (
      found.0,
      both_listed (IsReadableOf root) w true root found.0 etc usr (Ok r)
          (names_asked w names (etc_files root) (Ok c.in_ok-etc.etc) (c.in_ok-etc.ensures.told tells))
          (names_asked w names (usr_files root) (Ok c.in_ok-usr.usr) (c.in_ok-usr.ensures.told tells))
          (left_read w root found.0 etc usr left s r goes reads refl found.1.1.told found.1.1.is_said),
    )
