use Rattle.std.proofs.Common.{◌≡◌, ◌∙◌, ap, sym, refl, subst, cond, ℕ, List, [], ◌∷◌, ◌++◌, map, reverse, Some, None, Option}
use Rattle.std.specs.Prelude.{IsSome}
use Rattle.std.specs.Borrow.{Bor}
use Rattle.std.specs.Ordering.{is_eq}
use Rattle.std.specs.BTreeMap.{BTreeMap, get_by, insert_entry}
use Rattle.hwdb_spec.specs.Assignment.{text_cmp}
use Rattle.hwdb_query.specs.Views.{assignment_of_answer}
use Rattle.hwdb_query.specs.declared.answer.StoredAssignment.{StoredAssignment}
use Rattle.hwdb_query.specs.declared.by_key.AnswersByKey.{AnswersByKey}
use Rattle.hwdb_query.specs.Internal.Explaining.{answers_backwards, answers_at, backwards_or_none, explained_entry}
use Rattle.hwdb_query.proofs.GroupLemmas.{Answers, key_order, added, put_at, written_shown, backwards_more}
use Rattle.hwdb_query.proofs.by_key.AnswersByKey.add.Goals as goal

pub returns-in-Some : goal.returns-in-Some
returns-in-Some c = λ before is.
    let m = c.args.self.now in
    let k = c.args.answer.key in
    let a = c.args.answer in
    let old = c.in-Some.answers.now in
    let w = c.push.new.self in
    let writes = c.get_mut.follows.holds w in
    let there : get_by (λ j. text_cmp k.now j.now) m.answers ≡ Some old = sym c.in-Some.ensures.value in
    let whole : answers_backwards w ≡ assignment_of_answer a ∷ answers_at m k.now =
    ap (λ (l : List StoredAssignment). reverse (map assignment_of_answer l)) c.in_ok-push.ensures.items ∙ backwards_more old.items a
    ∙ ap (λ (o : Option Answers). assignment_of_answer a ∷ backwards_or_none o) (sym there) in
    added m _ before (assignment_of_answer a) k w refl whole
    (ap (λ es. map explained_entry es) writes.0 ∙ written_shown m.answers.entries k old w c.in-Some.ensures.ordered there)
    (λ q. (writes.3 (subst IsSome (sym there) refl)).0 (record k { now = q })) is

pub returns : goal.returns
returns c = λ before is.
    let m = c.args.self.now in
    let k = c.args.answer.key in
    let a = c.args.answer in
    let w = c.push-2.new.self in
    let none : get_by (λ j. text_cmp k.now j.now) m.answers ≡ None = sym c.in_default.ensures.value in
    let alone : w.items ≡ a ∷ [] = c.in_ok-push-2.ensures.items ∙ ap (λ (l : List StoredAssignment). l ++ a ∷ []) c.new-answers.ensures.items in
    let whole : answers_backwards w ≡ assignment_of_answer a ∷ answers_at m k.now =
    ap (λ (l : List StoredAssignment). reverse (map assignment_of_answer l)) alone
    ∙ ap (λ (o : Option Answers). assignment_of_answer a ∷ backwards_or_none o) (sym none) in
    let n : AnswersByKey = record { answers = c.insert.new.self } in
    let P : BTreeMap (Bor (List ℕ)) Answers → Type 0 = λ z. (c.insert.new.self.entries ≡ insert_entry key_order z.entries k w)
    × ((q : List ℕ) → get_by (λ j. text_cmp q j.now) c.insert.new.self ≡ cond (is_eq (text_cmp k.now q)) (Some w) (get_by (λ j. text_cmp q j.now) z)) in
    let both : P m.answers = subst P c.get_mut.follows.holds-at-none (c.in_ok-insert.ensures.entries, λ q. c.in_ok-insert.ensures.updates.0 (record k { now = q })) in
    added m n before (assignment_of_answer a) k w refl whole
    (put_at m n k w both.0) both.1 is
