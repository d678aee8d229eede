-- A database as a whole.
use Rattle.std.proofs.Common.{◌≡◌, ◌≢◌, ◌≤◌, ◌<◌, ℕ, List, length, refl, sym, ◌∙◌, arith, subst, inl, inr}
use Rattle.hwdb_spec.specs.declared.Layout.{Layout}
use Rattle.hwdb_spec.specs.declared.DbFault.{DbFault}
use Rattle.hwdb_spec.specs.declared.DbFault.TheVariants.{Place}
use Rattle.hwdb_spec.specs.Tree.{Tree}
use Rattle.hwdb_reader.specs.Views.{node_count}
use Rattle.hwdb_reader.specs.Internal.Read.{tree_at}
use Rattle.hwdb_spec.specs.Format.{NodeText, record_end, layout_of, IsHeader, IsDatabase, max_levels, root_visit, Fits, IsVisitFault, HeaderFault, Applies}
use Rattle.hwdb_reader.proofs.UniqueLemmas.{tree_is}
use Rattle.hwdb_reader.proofs.BoundLemmas.{begins_before, node_room}

pub strings_inside : (b : List ℕ) → IsHeader b → (layout_of b).strings ≤ length b
unfolding layout_of
strings_inside b h = let k = h.lengths.parts in omega (arith, k)

pub large_nodes : (b : List ℕ) → IsHeader b → 24 ≤ (layout_of b).node_size
unfolding layout_of
large_nodes b h = let k = h.sizes.node in omega (arith, k)

pub one_database : (b : List ℕ) (t u : Tree) → IsDatabase b t → IsDatabase b u → t ≡ u
one_database b t u h k = tree_is (layout_of b) b max_levels _ _ t h.text ∙ sym (tree_is (layout_of b) b max_levels _ _ u k.text)

-- the tree of a database is the one that is read
pub read_text : (b : List ℕ) (t : Tree) → IsDatabase b t → NodeText (layout_of b) b max_levels (layout_of b).nodes (layout_of b).root (tree_at (layout_of b) b max_levels (layout_of b).root)
read_text b t h =
    let goes = λ (u : Tree). NodeText (layout_of b) b max_levels (layout_of b).nodes (layout_of b).root u in
    subst goes (tree_is (layout_of b) b max_levels _ _ t h.text) h.text

pub root_fits : (b : List ℕ) (t : Tree) → IsDatabase b t → Fits (layout_of b) b (root_visit (layout_of b))
root_fits b t h =
    let w = h.whole in
    (begins_before (layout_of b) b (large_nodes b h.header) max_levels _ _ t h.text, omega (arith, w))

pub few_nodes : (b : List ℕ) (t : Tree) → IsDatabase b t → node_count t < length b
few_nodes b t h =
    let w = h.whole in
    let s = strings_inside b h.header in
    let long = h.header.long in
    omega (arith, node_room (layout_of b) b (large_nodes b h.header) max_levels _ _ t h.text, w, s, long)

pub header_stands : (b : List ℕ) (e : DbFault) → HeaderFault b e → Applies b e
unfolding Applies
header_stands b e h = inl h

pub node_stands : (b : List ℕ) (e : DbFault) → IsHeader b → IsVisitFault (layout_of b) b e → Applies b e
unfolding Applies
node_stands b e h s = inr (h, inl s)

pub root_stands : (b : List ℕ) → IsHeader b → record_end (layout_of b) b (layout_of b).root ≢ (layout_of b).strings → Applies b (Place (layout_of b).root)
unfolding Applies
root_stands b h s = inr (h, inr (refl, s))

pub database_of : (b : List ℕ) (l : Layout) → l ≡ layout_of b → IsHeader b → NodeText l b max_levels l.nodes l.root (tree_at l b max_levels l.root) → record_end l b l.root ≡ l.strings → IsDatabase b (tree_at l b max_levels l.root)
database_of b l e h text whole =
    let goal = λ (m : Layout). NodeText m b max_levels m.nodes m.root (tree_at m b max_levels m.root) → record_end m b m.root ≡ m.strings → IsDatabase b (tree_at m b max_levels m.root) in
    subst goal (sym e) (λ t w. record { header = h; text = t; whole = w }) text whole

pub root_stands_at : (b : List ℕ) (l : Layout) → l ≡ layout_of b → IsHeader b → record_end l b l.root ≢ l.strings → Applies b (Place l.root)
root_stands_at b l e h s =
    let goal = λ (m : Layout). record_end m b m.root ≢ m.strings → Applies b (Place m.root) in
    subst goal (sym e) (root_stands b h) s

-- what is read of a database whose layout is given
pub text_of_layout : (b : List ℕ) (l : Layout) → l ≡ layout_of b → (t : Tree) → IsDatabase b t → NodeText l b max_levels l.nodes l.root (tree_at l b max_levels l.root)
text_of_layout b l e t h =
    let goal = λ (m : Layout). NodeText m b max_levels m.nodes m.root (tree_at m b max_levels m.root) in
    subst goal (sym e) (read_text b t h)

pub inside_of_layout : (b : List ℕ) (l : Layout) → l ≡ layout_of b → (t : Tree) → IsDatabase b t → record_end l b l.root ≤ length b
inside_of_layout b l e t h =
    let goal = λ (m : Layout). record_end m b m.root ≤ length b in
    let w = h.whole in
    let s = strings_inside b h.header in
    subst goal (sym e) (omega (arith, w, s))

pub tree_of_layout : (b : List ℕ) (l : Layout) → l ≡ layout_of b → (t : Tree) → IsDatabase b t → tree_at l b max_levels l.root ≡ t
tree_of_layout b l e t h =
    let goal = λ (m : Layout). tree_at m b max_levels m.root ≡ t in
    subst goal (sym e) (sym (tree_is (layout_of b) b max_levels _ _ t h.text))
