use Rattle.std.proofs.Common.{◌≡◌, ◌∙◌, ap, sym, option_map, map, ◌++◌, append-nil, Some}
use Rattle.std.proofs.lemmas.List.{map-append}
use Rattle.hwdb_reader.specs.Views.{entry_shows}
use Rattle.hwdb_query.specs.Views.{assignment_of_answer}
use Rattle.hwdb_query.specs.Internal.Members.{one_assignment}
use Rattle.hwdb_query.specs.Lemmas.Parts.{shown_none, shown_some}
use Rattle.hwdb_query.proofs.node_answers.offer.Goals as goal

pub returns-in_default : goal.returns-in_default
returns-in_default c =
    let before = map assignment_of_answer c.args.into.now.items in
    sym (ap (λ r. before ++ r) (shown_none c.args.pattern.now.value.items (entry_shows c.args.entry) (ap (λ o. option_map (λ k. k.now) o) c.in_default.is)) ∙ append-nil before)

pub returns : goal.returns
returns c =
    let s = entry_shows c.args.entry in
    let pattern = c.args.pattern.now.value.items in
    let key = c.in-Some.key.now in
    let before = map assignment_of_answer c.args.into.now.items in
    let copy : c.in_ok-clone.field-0.value.items ≡ pattern = ap (λ v. v.items) c.in_ok-clone.ensures.cases in
    ap (map assignment_of_answer) c.in_ok-push.ensures.items ∙ map-append assignment_of_answer c.args.into.now.items _
    ∙ ap (λ p. before ++ one_assignment p s (Some key)) copy
    ∙ ap (λ r. before ++ r) (sym (shown_some pattern key s (ap (λ o. option_map (λ k. k.now) o) c.in-Some.is)))
