use Rattle.std.proofs.Common.{◌∙◌, All, Err, ap, map, string_bytes, subst, sym, true}
use Rattle.hwdb_spec.specs.Selected.{IsListed}
use Rattle.hwdb_text.specs.Views.{choice_of}
use Rattle.hwdb_spec_commands.specs.Reading.{AreUnreadIn, IsChosenUnread}
use Rattle.hwdb_system.proofs.LeftOutLemmas.{are_found, chosen_reason_of}
use Rattle.hwdb_system.proofs.SelectionLemmas.{choice_refused, texts_refused}
use Rattle.hwdb_system.proofs.ReadableLemmas.{chosen_looked, unchosen}
use Rattle.hwdb_system.proofs.SelectionPlanLemmas.{select_refused}
use Rattle.hwdb_system.specs.Selections.{AreLeftOutBy}
use Rattle.hwdb_system.specs.declared.left_out.Unreadable.{Unreadable}
use Rattle.hwdb_system.proofs.left_out.unreadable_of.Goals as goal
use Rattle.hwdb_spec.specs.Lemmas.Calls.{each_error, each_value, given_error}

pub returns-in_err-chosen-clause-refused : goal.returns-in_err-chosen-clause-refused
returns-in_err-chosen-clause-refused g c = λ named.
    let seen = g.D.Store.seen c.args.system.now in
    given_error _ (AreUnreadIn true c.args.root.now seen) c.from_residual.result c.from_residual.ensures.1
    (choice_refused (IsChosenUnread c.args.root.now) c.args.root.now seen _ _ c.in_err-chosen.field-0.0 named.in_etc named.in_usr (λ is. c.in_err-chosen.ensures.too_many (ap Err is)))

pub returns-clause-refused : goal.returns-clause-refused
returns-clause-refused g c = λ named.
    let seen = g.D.Store.seen c.args.system.now in
    each_error _ (AreUnreadIn true c.args.root.now seen) c.find_unreadable.result
    (λ r unread. texts_refused (IsChosenUnread c.args.root.now) c.args.root.now seen _ _ (map choice_of c.deref.result.now) r named.in_etc named.in_usr
    (ap (map choice_of) c.deref.ensures.value ∙ c.in_ok-chosen.ensures.chosen) c.in_ok-chosen.ensures.few unread) c.find_unreadable.ensures.refused

pub returns-clause-reason : goal.returns-clause-reason
returns-clause-reason g c = λ named.
    let etc = map string_bytes c.args.etc.now in
    let usr = map string_bytes c.args.usr.now in
    chosen_reason_of (g.D.System.may_fail c.args.system.now) c.args.root.now (g.D.Store.seen c.args.system.now) etc usr (map choice_of c.deref.result.now) c.find_unreadable.result named
    (subst (λ l. All (IsListed etc usr) (map choice_of l)) (sym c.deref.ensures.value) c.in_ok-chosen.ensures.listed)
    c.find_unreadable.ensures.refused c.find_unreadable.ensures.reason

pub returns-clause-found : goal.returns-clause-found
returns-clause-found g c = λ named.
    let seen = g.D.Store.seen c.args.system.now in
    let etc = map string_bytes c.args.etc.now in
    let usr = map string_bytes c.args.usr.now in
    each_value _ _ c.find_unreadable.result
    (λ u of. are_found (g.D.System.may_fail c.args.system.now) c.args.root.now seen etc usr (map choice_of c.deref.result.now) _ _ named
    (ap (map choice_of) c.deref.ensures.value ∙ c.in_ok-chosen.ensures.chosen)
    (subst (λ l. All (IsListed etc usr) (map choice_of l)) (sym c.deref.ensures.value) c.in_ok-chosen.ensures.listed) of) c.find_unreadable.ensures.told

pub returns-in_err-chosen-clause-follows : goal.returns-in_err-chosen-clause-follows
returns-in_err-chosen-clause-follows g c = λ tells.
    let etc = map string_bytes c.args.etc.now in
    let usr = map string_bytes c.args.usr.now in
    unchosen (g.D.System.reads c.args.system.now) c.args.root.now etc usr (λ (u : Unreadable). AreLeftOutBy c.args.root.now (map string_bytes u.names.items) u.said.items) _ c.from_residual.result
    (select_refused etc usr c.in_err-chosen.field-0.0 (λ is. c.in_err-chosen.ensures.too_many (ap Err is))) c.from_residual.ensures.1

pub returns-clause-follows : goal.returns-clause-follows
returns-clause-follows g c = λ tells.
    let etc = map string_bytes c.args.etc.now in
    let usr = map string_bytes c.args.usr.now in
    chosen_looked (g.D.System.reads c.args.system.now) c.args.root.now etc usr (map choice_of c.deref.result.now) (λ (u : Unreadable). AreLeftOutBy c.args.root.now (map string_bytes u.names.items) u.said.items) c.find_unreadable.result
    c.in_ok-chosen.ensures.few (ap (map choice_of) c.deref.ensures.value ∙ c.in_ok-chosen.ensures.chosen) (c.find_unreadable.ensures.follows tells)
