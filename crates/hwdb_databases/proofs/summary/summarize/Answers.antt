use Rattle.std.proofs.Common.{◌≡◌, ◌∙◌, ap, sym, subst, ◌++◌, map, length, reverse, arith, List, [], IfNone}
use Rattle.std.proofs.lemmas.List.{length-map}
use Rattle.hwdb_spec_commands.specs.Summary.{different, depth, nodes}
use Rattle.hwdb_spec.specs.Tree.{members_under, values_of}
use Rattle.hwdb_reader.specs.Views.{entered_tree}
use Rattle.hwdb_query.specs.Internal.Members.{own_members}
use Rattle.hwdb_databases.specs.Internal.Trails.{path_of}
use Rattle.hwdb_databases.specs.Internal.Walks.{own_of, rest_of, left, named_at, named_left, deepest_to_come}
use Rattle.hwdb_databases.specs.declared.walk.OpenVisit.{OpenVisit}
use Rattle.hwdb_databases.proofs.TallyLemmas.{all_taken, pattern_of, taken}
use Rattle.hwdb_databases.proofs.NamedLemmas.{different_named}
use Rattle.hwdb_databases.proofs.DepthLemmas.{nodes_same}
use Rattle.hwdb_databases.proofs.WalkLemmas.{walk_ended}
use Rattle.hwdb_databases.proofs.summary.summarize.Goals as goal

pub returns : goal.returns
returns c =
    let w = c.nodes.walk in
    let all = members_under [] c.args.db.now in
    let empty : w.stack.items ≡ [] = subst (λ at. IfNone at (w.stack.items ≡ [])) c.in_default.is c.nodes.invariant.end in
    let rest = own_of (path_of w.trail) w.at ++ rest_of w in
    let none : rest ≡ [] = walk_ended w c.in_default.is empty in
    let files = c.in_ok-count_different.ensures ∙ ap different (all_taken (λ f. f.path) _ rest all none c.nodes.invariant.files) in
    let keys_are = all_taken (λ f. f.position.key) _ rest all none c.nodes.invariant.keys in
    let keys = c.in_ok-count_different-2.ensures ∙ ap different keys_are in
    let none_here : named_at w.at ≡ 0 = ap named_at c.in_default.is in
    let none_left : named_left (reverse w.stack.items) ≡ 0 = ap (λ (b : List OpenVisit). named_left (reverse b)) empty in
    let counted_all = c.nodes.invariant.patterns in
    let alike_all = different_named c.args.db.now c.root-root.ensures.tree in
    let patterns : c.nodes.tally.patterns ≡ different (map pattern_of all) = omega (arith, none_here, none_left, counted_all, alike_all) in
    let size = c.nodes.tally.keys.ok in
    let read = c.len-assignments.ensures in
    let same = length-map c.nodes.tally.keys.items (λ t. t.now) in
    let listed = length-map all (λ f. f.position.key) in
    let equal = ap length keys_are in
    let count : c.len-assignments.result ≡ length all = omega (arith, size, read, same, listed, equal) in
    let left_none : left (reverse w.stack.items) ≡ 0 = ap (λ (b : List OpenVisit). left (reverse b)) empty in
    let deep_none : deepest_to_come (reverse w.stack.items) ≡ 0 = ap (λ (b : List OpenVisit). deepest_to_come (reverse b)) empty in
    let counted = c.nodes.invariant.walk.counted in
    let deepest = c.nodes.invariant.walk.deepest in
    let told = c.nodes-2.ensures in
    let alike = nodes_same c.args.db.now in
    let entered : c.nodes-2.result ≡ nodes c.args.db.now = omega (arith, left_none, counted, told, alike) in
    let deep : w.deepest ≡ depth c.args.db.now = omega (arith, deep_none, deepest) in
    λ i. record {
      files = files i;
      patterns = patterns i;
      keys = keys i;
      assignments = count i;
      nodes = entered i;
      depth = deep i;
      bytes = c.args.bytes;
    }

pub nodes-preserved : goal.nodes-preserved
nodes-preserved c =
    let a = c.in_ok-add.ensures in
    let e = c.in_ok-next.ensures in
    let i = c.nodes.invariant in
    let p = path_of c.nodes.walk.trail in
    let own = own_members p (values_of (entered_tree c.in-Some.inside)) in
    let here = ap named_at c.in-Some.is in
    record {
      files = taken (λ f. f.path) (map (λ t. t.now) c.nodes.tally.files.items) (map (λ t. t.now) c.add.new.self.files.items) own (rest_of c.nodes.walk) _ (a.files p) e.rest
          ∙ ap (λ at. map (λ t. t.now) c.nodes.tally.files.items ++ map (λ f. f.path) (own_of p at ++ rest_of c.nodes.walk)) (sym c.in-Some.is) ∙ i.files;
      keys = taken (λ f. f.position.key) (map (λ t. t.now) c.nodes.tally.keys.items) (map (λ t. t.now) c.add.new.self.keys.items) own (rest_of c.nodes.walk) _ (a.keys p) e.rest
          ∙ ap (λ at. map (λ t. t.now) c.nodes.tally.keys.items ++ map (λ f. f.position.key) (own_of p at ++ rest_of c.nodes.walk)) (sym c.in-Some.is) ∙ i.keys;
      patterns = omega (arith, a.patterns, e.named, here, i.patterns);
      few = a.few;
      walk = e.walk c.args.db.now i.walk;
      end = e.end;
    }
