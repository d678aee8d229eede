use Rattle.std.proofs.Common.{List, ℕ, map, string_bytes, subst, Err, Global, Ok, String, Vec}
use Rattle.hwdb_spec.specs.System.{etc_files, usr_files}
use Rattle.hwdb_plan.specs.Folders.{Texts, names_of, texts_of_names}
use Rattle.hwdb_plan.specs.Lemmas.Folders.{names_asked, value_stops, value_then}
use Rattle.hwdb_plan.specs.Plans.{Plan, ReachesValue}
use Rattle.hwdb_system.specs.Selections.{texts_in}
use Rattle.hwdb_system.proofs.SelectionLemmas.{all_named}
use Rattle.hwdb_system.proofs.folders.selected.Goals as goal

pub returns-clause-selected : goal.returns-clause-selected
returns-clause-selected g c = λ tells.
    let seen = g.D.Store.seen c.args.system.now in
    c.selected_of.ensures.selected seen
    (all_named c.args.root.now seen _ _ _ c.deref.ensures.value (c.in_ok-etc_names.ensures.names tells) (c.in_ok-usr_names.ensures.names tells)) tells

pub returns-clause-refused : goal.returns-clause-refused
returns-clause-refused g c = λ tells.
    let seen = g.D.Store.seen c.args.system.now in
    c.selected_of.ensures.refused seen
    (all_named c.args.root.now seen _ _ _ c.deref.ensures.value (c.in_ok-etc_names.ensures.names tells) (c.in_ok-usr_names.ensures.names tells)) tells

pub returns-clause-reason : goal.returns-clause-reason
returns-clause-reason g c = λ tells.
    let seen = g.D.Store.seen c.args.system.now in
    c.selected_of.ensures.reason seen
    (all_named c.args.root.now seen _ _ _ c.deref.ensures.value (c.in_ok-etc_names.ensures.names tells) (c.in_ok-usr_names.ensures.names tells))

pub returns-in_err-etc_names-clause-told : goal.returns-in_err-etc_names-clause-told
returns-in_err-etc_names-clause-told g c = λ tells.
    let w = g.D.System.reads c.args.system.now in
    let root = c.args.root.now in
    let names = λ (v : Vec (String Global) Global). map string_bytes v.items in
    let usr : List (List ℕ) → (Texts → Plan) → Plan = λ etc next. names_of (usr_files root) (λ usr. texts_of_names root etc usr next) in
    value_stops w names texts_in (names_of (etc_files root)) usr c.in_err-etc_names.field-0.0 c.from_residual.result
    (names_asked w names (etc_files root) (Err c.in_err-etc_names.field-0.0) (c.in_err-etc_names.ensures.told tells)) c.from_residual.ensures.1

pub returns-in_err-usr_names-clause-told : goal.returns-in_err-usr_names-clause-told
returns-in_err-usr_names-clause-told g c = λ tells.
    let w = g.D.System.reads c.args.system.now in
    let root = c.args.root.now in
    let names = λ (v : Vec (String Global) Global). map string_bytes v.items in
    let usr : List (List ℕ) → (Texts → Plan) → Plan = λ etc next. names_of (usr_files root) (λ usr. texts_of_names root etc usr next) in
    value_then w names texts_in (names_of (etc_files root)) usr c.in_ok-etc_names.etc_names c.from_residual-in_err-usr_names.result
    (names_asked w names (etc_files root) (Ok c.in_ok-etc_names.etc_names) (c.in_ok-etc_names.ensures.told tells))
    (value_stops w names texts_in (names_of (usr_files root)) (λ usr next. texts_of_names root (names c.in_ok-etc_names.etc_names) usr next) c.in_err-usr_names.field-0.0 c.from_residual-in_err-usr_names.result
    (names_asked w names (usr_files root) (Err c.in_err-usr_names.field-0.0) (c.in_err-usr_names.ensures.told tells)) c.from_residual-in_err-usr_names.ensures.1)

pub returns-clause-told : goal.returns-clause-told
returns-clause-told g c = λ tells.
    let w = g.D.System.reads c.args.system.now in
    let root = c.args.root.now in
    let names = λ (v : Vec (String Global) Global). map string_bytes v.items in
    let usr : List (List ℕ) → (Texts → Plan) → Plan = λ etc next. names_of (usr_files root) (λ usr. texts_of_names root etc usr next) in
    value_then w names texts_in (names_of (etc_files root)) usr c.in_ok-etc_names.etc_names c.selected_of.result
    (names_asked w names (etc_files root) (Ok c.in_ok-etc_names.etc_names) (c.in_ok-etc_names.ensures.told tells))
    (value_then w names texts_in (names_of (usr_files root)) (λ usr next. texts_of_names root (names c.in_ok-etc_names.etc_names) usr next) c.in_ok-usr_names.usr_names c.selected_of.result
    (names_asked w names (usr_files root) (Ok c.in_ok-usr_names.usr_names) (c.in_ok-usr_names.ensures.told tells))
    (subst (λ l. ReachesValue texts_in w (texts_of_names root (map string_bytes l) (names c.in_ok-usr_names.usr_names)) c.selected_of.result) c.deref.ensures.value (c.selected_of.ensures.told tells)))
