use Rattle.std.proofs.Common.{◌∙◌, ℕ, ap, map}
use Rattle.hwdb_spec.specs.Tree.{Tree}
use Rattle.hwdb_reader.specs.Views.{children_of, entered_tree, tree_of}
use Rattle.hwdb_query.specs.declared.answer.StoredAssignment.{StoredAssignment}
use Rattle.hwdb_databases.specs.Views.{assignment_of}
use Rattle.hwdb_databases.proofs.BeginningLemmas.{child_added, child_passed}
use Rattle.hwdb_databases.proofs.beginnings.push_children.Goals as goal
use Rattle.hwdb_databases.proofs.beginnings.push_children.Goals.{then-child-first+in_ok-push_child, else-child-first}
use Rattle.std.proofs.Common.{Global, Vec}

pub loop-i-preserved : goal.loop-i-preserved
loop-i-preserved c =
    let kids = children_of (entered_tree c.args.inside) in
    let child : ℕ × Tree = (c.child-child.result.byte, tree_of c.child-child.result.node) in
    let old = map assignment_of c.loop-i.found.items in
    let new = map assignment_of c.if-child-first.found.items in
    elim c.if-child-first.branch [
      | then-child-first+in_ok-push_child w ↦
          child_added c.args.first kids c.loop-i.i child _ old new c.child-child.ensures w.if-child-first.true
          (ap (λ (f : Vec StoredAssignment Global). map assignment_of f.items) w.found-is ∙ w.in_ok-push_child.ensures) c.loop-i.invariant
      | else-child-first w ↦
          child_passed c.args.first kids c.loop-i.i child _ old new c.child-child.ensures w.if-child-first.false
          (ap (λ (f : Vec StoredAssignment Global). map assignment_of f.items) w.found-is) c.loop-i.invariant
    ]
