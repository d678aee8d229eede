use Rattle.std.proofs.Common.{◌≡◌, ◌∙◌, ◌++◌, sym, ap, subst, map, false, true, append-nil}
use Rattle.std.proofs.lemmas.Result.{on_ok_weaker}
use Rattle.hwdb_query.specs.Views.{assignment_of_answer}
use Rattle.hwdb_spec.specs.Answers.{is_match}
use Rattle.hwdb_lookup.specs.Internal.Heads.{own_members}
use Rattle.hwdb_lookup.proofs.TreeLemmas.{own_wanted, own_unwanted, match_is, mismatch_is}
use Rattle.hwdb_lookup.proofs.descent.collect_matching.Goals as goal

pub returns-then-not-accepts-clause-collected : goal.returns-then-not-accepts-clause-collected
returns-then-not-accepts-clause-collected c file values m are =
    let o = c.args.open.now in
    let device = o.reach.device in
    let none : is_match device o.path.items ≡ false =
    subst (λ p. is_match device p ≡ false) c.deref.ensures.value (mismatch_is c.path_laws.ensures.matched device c.deref.result.now _ c.if-not-accepts.true c.accepts.ensures) in
    sym (ap (λ l. map assignment_of_answer c.args.into.now.items ++ l) (own_unwanted device o.path.items values none) ∙ append-nil _)

pub returns-clause-collected : goal.returns-clause-collected
returns-clause-collected c =
    let o = c.args.open.now in
    let device = o.reach.device in
    let some : is_match device o.path.items ≡ true =
    subst (λ p. is_match device p ≡ true) c.deref.ensures.value (match_is c.path_laws.ensures.matched device c.deref.result.now _ c.if-not-accepts.false c.accepts.ensures) in
    on_ok_weaker c.collect.result
    (λ collected file values m are.
    collected file values m are ∙ ap (λ l. map assignment_of_answer c.args.into.now.items ++ l)
    (ap (λ p. own_members p values) c.deref-2.ensures.value ∙ sym (own_wanted device o.path.items values some)))
    c.collect.ensures.collected
