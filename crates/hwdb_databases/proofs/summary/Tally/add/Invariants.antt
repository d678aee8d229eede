use Rattle.std.proofs.Common.{◌≡◌, ◌++◌, ℕ, List, map, drop}
use Rattle.hwdb_spec.specs.Tree.{values_of}
use Rattle.hwdb_reader.specs.Views.{entered_tree}
use Rattle.hwdb_query.specs.Internal.Members.{own_members}
use Rattle.hwdb_databases.proofs.summary.Tally.add.Given as goal

abbrev pub invariant-loop-i : goal.invariant-loop-i
invariant-loop-i l = record {
  files : (p : List ℕ) → map (λ t. t.now) l.self.files.items ++ map (λ f. f.path) (own_members p (drop l.i (values_of (entered_tree l.inside))))
      ≡ map (λ t. t.now) l.initial.self.files.items ++ map (λ f. f.path) (own_members p (values_of (entered_tree l.inside)));
  keys : (p : List ℕ) → map (λ t. t.now) l.self.keys.items ++ map (λ f. f.position.key) (own_members p (drop l.i (values_of (entered_tree l.inside))))
      ≡ map (λ t. t.now) l.initial.self.keys.items ++ map (λ f. f.position.key) (own_members p (values_of (entered_tree l.inside)));
  patterns : l.self.patterns ≡ l.initial.self.patterns;
}
