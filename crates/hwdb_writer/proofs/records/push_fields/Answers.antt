use Rattle.std.proofs.Common.{◌∙◌, ap, ◌++◌, List, ℕ}
use Rattle.std.proofs.lemmas.Result.{on_ok_weaker}
use Rattle.hwdb_writer.proofs.records.push_fields.Goals as goal
use Rattle.hwdb_writer.proofs.NumberLemmas.{leaf_text}
use Rattle.hwdb_spec.specs.Lemmas.Lists.{three_pieces}

pub returns : goal.returns
returns c =
    on_ok_weaker c.push_values.result
    (λ h place xs p. three_pieces c.args.out.now.items c.push_node.new.out.items c.extend_from_slice.new.self.items c.push_values.new.out.items _ _ _ c.in_ok-push_node.ensures c.in_ok-extend_from_slice.ensures.items (h place xs p))
    c.push_values.ensures

pub returns-then-values-eq1 : goal.returns-then-values-eq1
returns-then-values-eq1 c =
    on_ok_weaker c.push_leaf.result
    (λ h place xs p. h ∙ ap (λ (t : List ℕ). c.args.out.now.items ++ t) (leaf_text place c.args.places.now c.args.values.now xs _ _ c.args.node.now.children c.args.entries.now p c.if-values-eq1.true c.if-entries-eq0.true))
    c.push_leaf.ensures
