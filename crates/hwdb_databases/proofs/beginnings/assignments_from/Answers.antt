use Rattle.std.proofs.Common.{◌≡◌, ◌∙◌, ◌++◌, [], List, ap, filter, map, sym}
use Rattle.hwdb_spec.specs.Tree.{Tree, prefix_of}
use Rattle.hwdb_reader.specs.Views.{children_of, entered_tree, tree_of}
use Rattle.hwdb_query.specs.Internal.Members.{members_in}
use Rattle.hwdb_query.specs.declared.answer.StoredAssignment.{StoredAssignment}
use Rattle.hwdb_databases.specs.Beginnings.{is_from}
use Rattle.hwdb_databases.specs.Views.{assignment_of}
use Rattle.hwdb_databases.proofs.BeginningLemmas.{all_led, no_bytes, none_led, without_prefix}
use Rattle.hwdb_databases.proofs.beginnings.assignments_from.Goals as goal

pub returns-then-byte-first : goal.returns-then-byte-first
returns-then-byte-first c = record {
  list = c.in_ok-assignments.ensures.list
      ∙ all_led c.args.first c.args.db.now c.in-Some.byte.now c.in-Some.field-0-1.now
      (sym (ap prefix_of c.root-root.ensures.root) ∙ sym c.prefix.ensures ∙ c.in-Some.ensures.cases.0) c.if-byte-first.true;
}

pub returns-in-Some : goal.returns-in-Some
returns-in-Some c = record {
  list = ap (map assignment_of) c.new.ensures.items
      ∙ none_led c.args.first c.args.db.now c.in-Some.byte.now c.in-Some.field-0-1.now
      (sym (ap prefix_of c.root-root.ensures.root) ∙ sym c.prefix.ensures ∙ c.in-Some.ensures.cases.0) c.if-byte-first.false;
}

pub returns : goal.returns
returns c =
    let tree : entered_tree c.enter.result ≡ c.args.db.now = c.enter.ensures.same ∙ c.root-root.ensures.root in
    record {
      list = c.in_ok-push_children.ensures
          ∙ ap (λ (l : List StoredAssignment). map assignment_of l ++ filter (is_from c.args.first) (members_in [] (children_of (entered_tree c.enter.result)))) c.new-found.ensures.items
          ∙ ap (λ (t : Tree). filter (is_from c.args.first) (members_in [] (children_of t))) tree
          ∙ sym (without_prefix c.args.first c.args.db.now (sym (ap prefix_of c.root-root.ensures.root) ∙ sym c.prefix.ensures ∙ no_bytes c.prefix.result.now c.in_default.ensures.cases));
    }
