use Rattle.std.proofs.Common.{◌∙◌, ap, sym, map, ◌++◌, drop, suc, add-one, append_assoc}
use Rattle.hwdb_spec.specs.Tree.{values_of}
use Rattle.hwdb_reader.specs.Views.{entered_tree, entry_shows}
use Rattle.hwdb_query.specs.Views.{assignment_of_answer}
use Rattle.hwdb_query.specs.Internal.Members.{own_members, assignment_shown}
use Rattle.hwdb_query.specs.Lemmas.Parts.{own_next}
use Rattle.hwdb_query.proofs.node_answers.push_answers.Goals as goal

pub loop-i-preserved : goal.loop-i-preserved
loop-i-preserved c =
    let values = values_of (entered_tree c.args.inside) in
    let pattern = c.args.pattern.now in
    let before = map assignment_of_answer c.loop-i.into.items in
    let rest = own_members pattern (drop (suc c.loop-i.i) values) in
    let shown = entry_shows c.value.result in
    rw add-one (
    ap (λ r. r ++ rest) c.in_ok-offer.ensures ∙ append_assoc before _ rest
    ∙ ap (λ p. before ++ (assignment_shown p shown ++ rest)) c.in_ok-copy.ensures
    ∙ ap (λ r. before ++ r) (sym (own_next pattern values c.loop-i.i shown c.value.ensures)) ∙ c.loop-i.invariant)
