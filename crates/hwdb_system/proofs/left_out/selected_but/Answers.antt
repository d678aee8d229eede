use Rattle.std.proofs.Common.{◌≡◌, ◌∙◌, ap, filter, map, not, string_bytes, subst, sym}
use Rattle.hwdb_spec_commands.specs.LeftOut.{less}
use Rattle.hwdb_system.specs.Lemmas.LeftOut.{named_less}
use Rattle.hwdb_plan.specs.Readable.{ReachesOf, others, read_names}
use Rattle.hwdb_spec.specs.Folders.{lists}
use Rattle.hwdb_system.proofs.ReadableLemmas.{names_reach}
use Rattle.hwdb_system.specs.Selections.{IsSelectionBut}
use Rattle.hwdb_system.proofs.left_out.selected_but.Goals as goal

pub returns-clause-selected : goal.returns-clause-selected
returns-clause-selected g c = λ named tells.
    let seen = g.D.Store.seen c.args.system.now in
    let gone = map string_bytes c.args.listed.but.now in
    c.selected_of.ensures.selected (less gone c.args.root.now seen)
    (named_less c.args.root.now seen gone (map string_bytes c.args.listed.etc.now) (map string_bytes c.args.listed.usr.now) _ _ named.in_etc named.in_usr
    (ap (map string_bytes) c.deref.ensures.value ∙ c.in_ok-etc.ensures gone c.in_ok-left_out.ensures) (c.in_ok-usr.ensures gone c.in_ok-left_out.ensures)) tells

pub returns-clause-refused : goal.returns-clause-refused
returns-clause-refused g c = λ named tells.
    let seen = g.D.Store.seen c.args.system.now in
    let gone = map string_bytes c.args.listed.but.now in
    c.selected_of.ensures.refused (less gone c.args.root.now seen)
    (named_less c.args.root.now seen gone (map string_bytes c.args.listed.etc.now) (map string_bytes c.args.listed.usr.now) _ _ named.in_etc named.in_usr
    (ap (map string_bytes) c.deref.ensures.value ∙ c.in_ok-etc.ensures gone c.in_ok-left_out.ensures) (c.in_ok-usr.ensures gone c.in_ok-left_out.ensures)) tells

pub returns-clause-reason : goal.returns-clause-reason
returns-clause-reason g c = λ named.
    let seen = g.D.Store.seen c.args.system.now in
    let gone = map string_bytes c.args.listed.but.now in
    c.selected_of.ensures.reason (less gone c.args.root.now seen)
    (named_less c.args.root.now seen gone (map string_bytes c.args.listed.etc.now) (map string_bytes c.args.listed.usr.now) _ _ named.in_etc named.in_usr
    (ap (map string_bytes) c.deref.ensures.value ∙ c.in_ok-etc.ensures gone c.in_ok-left_out.ensures) (c.in_ok-usr.ensures gone c.in_ok-left_out.ensures))

pub returns-clause-follows : goal.returns-clause-follows
returns-clause-follows g c = λ in_both tells left are.
    let root = c.args.root.now in
    let seen = g.D.Store.seen c.args.system.now in
    let gone = map string_bytes c.args.listed.but.now in
    let etc = map string_bytes c.args.listed.etc.now in
    let usr = map string_bytes c.args.listed.usr.now in
    let w = g.D.System.reads c.args.system.now in
    let etc_left : map string_bytes c.deref.result.now ≡ others left.files etc =
    ap (map string_bytes) c.deref.ensures.value ∙ c.in_ok-etc.ensures gone c.in_ok-left_out.ensures ∙ ap (λ l. filter (λ name. not (lists name l)) etc) (sym are) in
    let usr_left : map string_bytes c.in_ok-usr.usr.items ≡ others left.files usr = c.in_ok-usr.ensures gone c.in_ok-left_out.ensures ∙ ap (λ l. filter (λ name. not (lists name l)) usr) (sym are) in
    let of_etc : ReachesOf (IsSelectionBut left) w (read_names root (map string_bytes c.deref.result.now) (map string_bytes c.in_ok-usr.usr.items) left) c.selected_of.result =
    names_reach w root (less gone root seen) (map string_bytes c.deref.result.now) (map string_bytes c.in_ok-usr.usr.items) left c.selected_of.result
    (c.selected_of.ensures.told tells) c.selected_of.ensures.among
    (c.selected_of.ensures.selected (less gone root seen)
    (named_less root seen gone etc usr _ _ in_both.in_etc in_both.in_usr
    (ap (map string_bytes) c.deref.ensures.value ∙ c.in_ok-etc.ensures gone c.in_ok-left_out.ensures) (c.in_ok-usr.ensures gone c.in_ok-left_out.ensures)) tells) in
    subst (λ l. ReachesOf (IsSelectionBut left) w (read_names root l (others left.files usr) left) c.selected_of.result) etc_left
    (subst (λ l. ReachesOf (IsSelectionBut left) w (read_names root (map string_bytes c.deref.result.now) l left) c.selected_of.result) usr_left of_etc)
