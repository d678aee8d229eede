use Rattle.std.proofs.Common.{◌∙◌, ap, sym, [], map, ◌++◌, drop, suc, add-one, refl, arith}
use Rattle.std.proofs.lemmas.List.{length-map}
use Rattle.hwdb_spec.specs.Tree.{values_of}
use Rattle.hwdb_reader.specs.Views.{entered_tree, entry_shows}
use Rattle.hwdb_query.specs.Internal.Members.{own_members, assignment_shown}
use Rattle.hwdb_query.specs.Lemmas.Parts.{own_after, own_next}
use Rattle.hwdb_databases.proofs.NamedLemmas.{named_none, named_some}
use Rattle.hwdb_databases.proofs.TallyLemmas.{grown, taken, taken_all}
use Rattle.hwdb_databases.proofs.summary.Tally.add.Goals as goal

pub loop-i-preserved : goal.loop-i-preserved
loop-i-preserved c =
    let values = values_of (entered_tree c.args.inside) in
    let shown = entry_shows c.value.result in
    rw add-one (record {
      files = λ p.
          let rest = own_members p (drop (suc c.loop-i.i) values) in
          taken (λ f. f.path) _ _ (assignment_shown p shown) rest rest (c.in_ok-add_value.ensures.files p) refl
          ∙ ap (λ r. map (λ t. t.now) c.loop-i.self.files.items ++ map (λ f. f.path) r) (sym (own_next p values c.loop-i.i shown c.value.ensures)) ∙ c.loop-i.invariant.files p;
      keys = λ p.
          let rest = own_members p (drop (suc c.loop-i.i) values) in
          taken (λ f. f.position.key) _ _ (assignment_shown p shown) rest rest (c.in_ok-add_value.ensures.keys p) refl
          ∙ ap (λ r. map (λ t. t.now) c.loop-i.self.keys.items ++ map (λ f. f.position.key) r) (sym (own_next p values c.loop-i.i shown c.value.ensures)) ∙ c.loop-i.invariant.keys p;
      patterns = c.in_ok-add_value.ensures.patterns ∙ c.loop-i.invariant.patterns;
    })

pub returns-then-len-before-clause-files : goal.returns-then-len-before-clause-files
returns-then-len-before-clause-files c p =
    let values = values_of (entered_tree c.args.inside) in
    let all = c.values-i-end.ensures in
    let past = c.loop-i-test.false in
    taken_all (λ f. f.path) (map (λ t. t.now) c.args.self.now.files.items) (map (λ t. t.now) c.loop-i.self.files.items) (own_members p values) (own_members p (drop c.loop-i.i values))
    (own_after p values c.loop-i.i (omega (arith, all, past))) (c.loop-i.invariant.files p)

pub returns-then-len-before-clause-keys : goal.returns-then-len-before-clause-keys
returns-then-len-before-clause-keys c p =
    let values = values_of (entered_tree c.args.inside) in
    let all = c.values-i-end.ensures in
    let past = c.loop-i-test.false in
    taken_all (λ f. f.position.key) (map (λ t. t.now) c.args.self.now.keys.items) (map (λ t. t.now) c.loop-i.self.keys.items) (own_members p values) (own_members p (drop c.loop-i.i values))
    (own_after p values c.loop-i.i (omega (arith, all, past))) (c.loop-i.invariant.keys p)

pub returns-then-len-before-clause-patterns : goal.returns-then-len-before-clause-patterns
returns-then-len-before-clause-patterns c =
    let values = values_of (entered_tree c.args.inside) in
    let all = c.values-i-end.ensures in
    let past = c.loop-i-test.false in
    let more = grown (λ f. f.position.key) (map (λ t. t.now) c.args.self.now.keys.items) (map (λ t. t.now) c.loop-i.self.keys.items) (own_members [] values) (own_members [] (drop c.loop-i.i values))
    (own_after [] values c.loop-i.i (omega (arith, all, past))) (c.loop-i.invariant.keys []) in
    let now = length-map c.loop-i.self.keys.items (λ t. t.now) in
    let was = length-map c.args.self.now.keys.items (λ t. t.now) in
    let read = c.len.ensures in
    let before = c.len-before.ensures in
    let branch = c.if-len-before.true in
    let same = c.loop-i.invariant.patterns in
    let old_size = c.args.self.now.keys.ok in
    let new_size = c.loop-i.self.keys.ok in
    let here = named_none [] values (omega (arith, more, now, was, read, before, branch, old_size, new_size)) in
    omega (arith, here, same)

pub returns-then-len-before-clause-few : goal.returns-then-len-before-clause-few
returns-then-len-before-clause-few c =
    let values = values_of (entered_tree c.args.inside) in
    let all = c.values-i-end.ensures in
    let past = c.loop-i-test.false in
    let more = grown (λ f. f.position.key) (map (λ t. t.now) c.args.self.now.keys.items) (map (λ t. t.now) c.loop-i.self.keys.items) (own_members [] values) (own_members [] (drop c.loop-i.i values))
    (own_after [] values c.loop-i.i (omega (arith, all, past))) (c.loop-i.invariant.keys []) in
    let now = length-map c.loop-i.self.keys.items (λ t. t.now) in
    let was = length-map c.args.self.now.keys.items (λ t. t.now) in
    let read = c.len.ensures in
    let before = c.len-before.ensures in
    let branch = c.if-len-before.true in
    let same = c.loop-i.invariant.patterns in
    let old_size = c.args.self.now.keys.ok in
    let new_size = c.loop-i.self.keys.ok in
    let few = c.requires in
    omega (arith, few, more, now, was, read, before, branch, same, old_size, new_size)

pub returns-clause-files : goal.returns-clause-files
returns-clause-files c p =
    let values = values_of (entered_tree c.args.inside) in
    let all = c.values-i-end.ensures in
    let past = c.loop-i-test.false in
    taken_all (λ f. f.path) (map (λ t. t.now) c.args.self.now.files.items) (map (λ t. t.now) c.loop-i.self.files.items) (own_members p values) (own_members p (drop c.loop-i.i values))
    (own_after p values c.loop-i.i (omega (arith, all, past))) (c.loop-i.invariant.files p)

pub returns-clause-keys : goal.returns-clause-keys
returns-clause-keys c p =
    let values = values_of (entered_tree c.args.inside) in
    let all = c.values-i-end.ensures in
    let past = c.loop-i-test.false in
    taken_all (λ f. f.position.key) (map (λ t. t.now) c.args.self.now.keys.items) (map (λ t. t.now) c.loop-i.self.keys.items) (own_members p values) (own_members p (drop c.loop-i.i values))
    (own_after p values c.loop-i.i (omega (arith, all, past))) (c.loop-i.invariant.keys p)

pub returns-clause-patterns : goal.returns-clause-patterns
returns-clause-patterns c =
    let values = values_of (entered_tree c.args.inside) in
    let all = c.values-i-end.ensures in
    let past = c.loop-i-test.false in
    let more = grown (λ f. f.position.key) (map (λ t. t.now) c.args.self.now.keys.items) (map (λ t. t.now) c.loop-i.self.keys.items) (own_members [] values) (own_members [] (drop c.loop-i.i values))
    (own_after [] values c.loop-i.i (omega (arith, all, past))) (c.loop-i.invariant.keys []) in
    let now = length-map c.loop-i.self.keys.items (λ t. t.now) in
    let was = length-map c.args.self.now.keys.items (λ t. t.now) in
    let read = c.len.ensures in
    let before = c.len-before.ensures in
    let branch = c.if-len-before.false in
    let same = c.loop-i.invariant.patterns in
    let old_size = c.args.self.now.keys.ok in
    let new_size = c.loop-i.self.keys.ok in
    let here = named_some [] values (omega (arith, more, now, was, read, before, branch, old_size, new_size)) in
    omega (arith, here, same)

pub returns-clause-few : goal.returns-clause-few
returns-clause-few c =
    let values = values_of (entered_tree c.args.inside) in
    let all = c.values-i-end.ensures in
    let past = c.loop-i-test.false in
    let more = grown (λ f. f.position.key) (map (λ t. t.now) c.args.self.now.keys.items) (map (λ t. t.now) c.loop-i.self.keys.items) (own_members [] values) (own_members [] (drop c.loop-i.i values))
    (own_after [] values c.loop-i.i (omega (arith, all, past))) (c.loop-i.invariant.keys []) in
    let now = length-map c.loop-i.self.keys.items (λ t. t.now) in
    let was = length-map c.args.self.now.keys.items (λ t. t.now) in
    let read = c.len.ensures in
    let before = c.len-before.ensures in
    let branch = c.if-len-before.false in
    let same = c.loop-i.invariant.patterns in
    let old_size = c.args.self.now.keys.ok in
    let new_size = c.loop-i.self.keys.ok in
    let few = c.requires in
    omega (arith, few, more, now, was, read, before, branch, same, old_size, new_size)
