-- A node takes its children's place.
use Rattle.std.proofs.Common.{◌≡◌, ◌≤◌, ◌<◌, ◌-◌, ℕ, zero, suc, ◌+◌, ◌*◌, List, ◌∷◌, None, length, set, slice_index, refl, sym, ◌∙◌, ap, subst, arith, get_or-set_same, get_or-set_other}
use Rattle.hwdb_spec.specs.declared.Layout.{Layout}
use Rattle.hwdb_spec.specs.Tree.{Value, Tree, Children, count}
use Rattle.hwdb_spec.specs.Tree.Tree.{Node}
use Rattle.hwdb_spec.specs.Tree.Children.{NoMore, Child}
use Rattle.hwdb_spec.specs.Format.{number_at, NodeText, ChildrenText, ValuesText, IsPlace, IsDatabase, max_levels, record_end, child_entry, child_byte, child_off, children_count, values_count, value_entries, prefix_off, text_at}
use Rattle.hwdb_reader.specs.Passes.Views.{IsPart, IsOf, Stand, Stands, pending}
use Rattle.hwdb_reader.specs.Passes.Internal.{values_at, ChildrenStand}
use Rattle.hwdb_reader.specs.declared.passes.outline.Outline.{Outline}
use Rattle.hwdb_reader.specs.Passes.Lemmas.Parts.{byte_is, number_is, children_there, values_there, prefix_there, end_there}
use Rattle.hwdb_reader.proofs.passes.EntryLemmas.{values_many, place_is}

mutual
  unfolding NodeText

  -- a text of some levels is one of more
  pub node_levels : (l : Layout) (file : List ℕ) (n m from off : ℕ) (t : Tree) → n ≤ m → NodeText l file n from off t → NodeText l file m from off t
  node_levels l file zero m from off (Node prefix values children) le h = absurd h
  node_levels l file (suc n) zero from off (Node prefix values children) le h = absurd (omega (arith, le))
  node_levels l file (suc n) (suc m) from off (Node prefix values children) le h =
      (h.0, h.1, h.2, h.3, h.4, children_levels l file n m from (child_entry l off 0) 0 off children (omega (arith, le)) h.5)

  pub children_levels : (l : Layout) (file : List ℕ) (n m from entry byte end : ℕ) (ks : Children) → n ≤ m → ChildrenText l file n from entry byte end ks → ChildrenText l file m from entry byte end ks
  children_levels l file n m from entry byte end NoMore le h = h
  children_levels l file n m from entry byte end (Child c t more) le h =
      (h.0, h.1, node_levels l file n m from (child_off file entry) t le h.2, children_levels l file n m (record_end l file (child_off file entry)) (entry + l.child_size) c end more le h.3)

-- ---- the tables

-- what comes after the first n rows doesn't matter
pending_set : (xs ds : List ℕ) (i x d n : ℕ) → n ≤ i → pending (set xs i x) (set ds i d) n ≡ pending xs ds n
unfolding pending
pending_set xs ds i x d zero le = refl
pending_set xs ds i x d (suc n) le =
    let rest = pending_set xs ds i x d n (omega arith) in
    rw (rest, get_or-set_other xs i n x 0 (λ e. omega (arith, e)), get_or-set_other ds i n d 0 (λ e. omega (arith, e))) refl

-- one row more
row_added : (xs ds : List ℕ) (n x d : ℕ) → n < length xs → n < length ds → pending (set xs n x) (set ds n d) (suc n) ≡ (x, d) ∷ pending xs ds n
unfolding pending
row_added xs ds n x d lx ld =
    rw (pending_set xs ds n x d n (omega arith), get_or-set_same xs n x 0 lx, get_or-set_same ds n d 0 ld) refl

-- the last row
rows_split : (xs ds : List ℕ) (base k : ℕ) → pending xs ds (base + suc k) ≡ (slice_index xs (base + k), slice_index ds (base + k)) ∷ pending xs ds (base + k)
unfolding pending
rows_split xs ds base k = let e : base + suc k ≡ suc (base + k) = omega arith in ap (pending xs ds) e

-- ---- children

module _ (l : Layout) (file : List ℕ) where
  -- no child was met
  pub children_none : (nodes : List (ℕ × ℕ)) (height limit off i : ℕ) → Stand l file nodes off → ChildrenStand l file nodes height limit off i 0
  unfolding NodeText count
  children_none nodes height limit off i stand = record { ks = NoMore; from = off; many = refl; text = λ byte lt. refl; stand = stand }

  -- the child before them is the last node that is there
  pub children_more : (more : List (ℕ × ℕ)) (o h height height' limit c off i n : ℕ) → h ≤ height' → height ≤ height' → c ≡ child_byte file (child_entry l off i) → c < limit
      → child_off file (child_entry l off i) ≡ o → ChildrenStand l file ((o, h) ∷ more) height limit off (suc i) n → ChildrenStand l file more height' c off i (suc n)
  unfolding NodeText Stand count
  children_more more o h height height' limit c off i n first rest is lt place cs =
      let child = cs.stand in
      let next : child_entry l off (suc i) ≡ child_entry l off i + l.child_size = omega arith in
      let begin : cs.from ≡ record_end l file (child_off file (child_entry l off i)) = sym (child.3) ∙ ap (record_end l file) (sym place) in
      record {
        ks = Child c child.0 cs.ks;
        from = child.1;
        many = ap suc cs.many;
        text = λ byte below. (
          below,
          is,
          subst (λ k. NodeText l file height' child.1 k child.0) (sym place) (node_levels l file h height' child.1 o child.0 first child.2),
          subst (λ k. ChildrenText l file height' k (child_entry l off i + l.child_size) c off cs.ks) begin
              (subst (λ e. ChildrenText l file height' cs.from e c off cs.ks) next (children_levels l file height height' cs.from (child_entry l off (suc i)) c off cs.ks rest (cs.text c lt))),
        );
        stand = child.4;
      }

  pub children_all : (nodes : List (ℕ × ℕ)) (height limit off i j n m : ℕ) → 0 < limit → i ≡ j → n ≡ m → ChildrenStand l file nodes height limit off i n → ChildrenStand l file nodes height 1 off j m
  children_all nodes height limit off i j n m some first all cs =
      let h : ChildrenStand l file nodes height 1 off i n = record { ks = cs.ks; from = cs.from; many = cs.many; text = λ byte lt. cs.text byte (omega (arith, lt, some)); stand = cs.stand } in
      subst (λ k. ChildrenStand l file nodes height 1 off k m) first (subst (λ k. ChildrenStand l file nodes height 1 off i k) all h)

  -- a record takes its children's place
  pub node_stands : (nodes : List (ℕ × ℕ)) (height off end : ℕ) (values : List Value) → IsPlace l file (prefix_off file off) → length values ≡ values_count file off
      → ValuesText l file (value_entries l file off) None values → ChildrenStand l file nodes height 1 off 0 (children_count file off) → record_end l file off ≡ end
      → Stand l file ((off, suc height) ∷ nodes) end
  unfolding NodeText Stand
  node_stands nodes height off end values prefix many text cs ends =
      (Node (text_at file (prefix_off file off)) values cs.ks, cs.from, (prefix, refl, many, text, cs.many, cs.text 0 (omega arith)), ends, cs.stand)

-- what a part says of a child
pub child_there : (l : Layout) (file part : List ℕ) (at off entry k o : ℕ) → IsPart file at part → entry ≡ child_entry l off k → entry + 16 ≤ length part → number_at 8 (entry + 8) part ≡ o
    → (slice_index part entry ≡ child_byte file (child_entry l (at + off) k)) × (child_off file (child_entry l (at + off) k) ≡ o)
child_there l file part at off entry k o p is room place =
    let there : at + entry ≡ child_entry l (at + off) k = omega (arith, is) in (
      byte_is file part at entry (child_entry l (at + off) k) p (omega (arith, room)) there,
      sym (number_is file part at 8 (entry + 8) (child_entry l (at + off) k + 8) p (omega (arith, room)) (omega (arith, there))) ∙ place,
    )

-- one child more, of which the table's last row is
pub child_taken : (l : Layout) (file offsets heights : List ℕ) (base height height' limit c off i k count : ℕ) → i ≡ suc k → i ≤ count → slice_index heights (base + k) ≤ height' → height ≤ height'
    → c ≡ child_byte file (child_entry l off k) → c < limit → child_off file (child_entry l off k) ≡ slice_index offsets (base + k)
    → ChildrenStand l file (pending offsets heights (base + i)) height limit off i (count - i) → ChildrenStand l file (pending offsets heights (base + k)) height' c off k (count - k)
child_taken l file offsets heights base height height' limit c off i k count more within first rest is lt place cs =
    let cs' = subst (λ j. ChildrenStand l file (pending offsets heights (base + j)) height limit off j (count - j)) more cs in
    let cs'' = subst (λ (nodes : List (ℕ × ℕ)). ChildrenStand l file nodes height limit off (suc k) (count - suc k)) (rows_split offsets heights base k) cs' in
    let size : suc (count - suc k) ≡ count - k = omega (arith, more, within) in
    subst (λ n. ChildrenStand l file (pending offsets heights (base + k)) height' c off k n) size
    (children_more l file (pending offsets heights (base + k)) (slice_index offsets (base + k)) (slice_index heights (base + k)) height height' limit c off k (count - suc k) first rest is lt place cs'')

-- no child yet
pub children_begin : (l : Layout) (file offsets heights : List ℕ) (n count height limit off : ℕ) → count ≤ n → Stand l file (pending offsets heights n) off
    → ChildrenStand l file (pending offsets heights (n - count + count)) height limit off count (count - count)
children_begin l file offsets heights n count height limit off enough stand =
    let e : n ≡ n - count + count = omega (arith, enough) in
    let z : 0 ≡ count - count = omega arith in
    subst (λ m. ChildrenStand l file (pending offsets heights (n - count + count)) height limit off count m) z
    (children_none l file (pending offsets heights (n - count + count)) height limit off count (subst (λ m. Stand l file (pending offsets heights m) off) e stand))

-- all children
pub children_end : (l : Layout) (file offsets heights : List ℕ) (base height limit off i count : ℕ) → 0 < limit → i ≡ 0 → ChildrenStand l file (pending offsets heights (base + i)) height limit off i (count - i)
    → ChildrenStand l file (pending offsets heights base) height 1 off 0 count
children_end l file offsets heights base height limit off i count some none cs =
    let e : base + i ≡ base = omega (arith, none) in
    let n : count - i ≡ count = omega (arith, none) in
    subst (λ m. ChildrenStand l file (pending offsets heights m) height 1 off 0 count) e (children_all l file (pending offsets heights (base + i)) height limit off i 0 (count - i) count some none n cs)

pub record_room : (l : Layout) (b : List ℕ) (off : ℕ) → 24 ≤ l.node_size → off + 24 ≤ record_end l b off
unfolding record_end
record_room l b off big = omega arith

-- a record that was tested takes its children's place
pub record_taken : (o : Outline) (file part : List ℕ) (at off prefix values first height d : ℕ) (nodes : List (ℕ × ℕ)) → IsOf o file → IsPart file at part → 24 ≤ o.frame.sizes.node_size
    → record_end o.frame.sizes part off ≤ length part → prefix ≡ prefix_off part off → (o.frame.sizes.strings ≤ prefix) × (prefix < o.size) → values ≡ values_count part off
    → first ≡ off + o.frame.sizes.node_size + o.frame.sizes.child_size * children_count part off
    → ValuesText o.frame.sizes file (at + first) None (values_at o.frame.sizes file (at + first) values)
    → ChildrenStand o.frame.sizes file nodes height 1 (at + off) 0 (children_count part off) → d ≡ suc height
    → Stand o.frame.sizes file ((at + off, d) ∷ nodes) (at + record_end o.frame.sizes part off)
record_taken o file part at off prefix values first height d nodes is p big inside ep place ev ef text cs up =
    let l = o.frame.sizes in
    let fixed = record_room l part off big in
    let room : off + 24 ≤ length part = omega (arith, fixed, inside) in
    let vs = values_at l file (at + first) values in
    let begin : at + first ≡ at + off + l.node_size + l.child_size * children_count part off = omega (arith, ef) in
    let entries : at + first ≡ value_entries l file (at + off) = begin ∙ ap (λ n. at + off + l.node_size + l.child_size * n) (children_there l file part at off p room) in
    subst (λ n. Stand l file ((at + off, n) ∷ nodes) (at + record_end l part off)) (sym up)
    (node_stands l file nodes height (at + off) (at + record_end l part off) vs (place_is o file prefix _ is (ep ∙ prefix_there l file part at off p room) place)
    (values_many l file (at + first) values ∙ ev ∙ values_there l file part at off p room) (subst (λ e. ValuesText l file e None vs) entries text)
    (subst (λ n. ChildrenStand l file nodes height 1 (at + off) 0 n) (children_there l file part at off p room) cs) (sym (end_there l file part at off p room)))

-- and the last row
pub row_taken : (l : Layout) (file offsets heights : List ℕ) (n m x d end : ℕ) → n < length offsets → n < length heights → m ≡ suc n → Stand l file ((x, d) ∷ pending offsets heights n) end
    → Stand l file (pending (set offsets n x) (set heights n d) m) end
row_taken l file offsets heights n m x d end lo lh more stand =
    subst (λ k. Stand l file (pending (set offsets n x) (set heights n d) k) end) (sym more) (subst (λ (nodes : List (ℕ × ℕ)). Stand l file nodes end) (sym (row_added offsets heights n x d lo lh)) stand)

-- the root alone is there
pub root_stands : (o : Outline) (file offsets heights : List ℕ) (n at : ℕ) → IsOf o file → n ≡ 1 → slice_index offsets 0 ≡ o.frame.sizes.root → slice_index heights 0 ≤ max_levels
    → at ≡ o.frame.sizes.strings → Stands file (pending offsets heights n) at → (t : Tree) × IsDatabase file t
unfolding Stand pending
root_stands o file offsets heights n at is one root low end stand =
    let l = o.frame.sizes in
    let s = subst (λ m. Stand l file (pending offsets heights m) at) one (subst (λ (k : Layout). Stand k file (pending offsets heights n) at) (sym is.layout) stand) in
    let h1 = node_levels l file (slice_index heights 0) max_levels s.1 (slice_index offsets 0) s.0 low s.2 in
    let h2 = subst (λ k. NodeText l file max_levels k (slice_index offsets 0) s.0) s.4 h1 in
    let h3 = subst (λ k. NodeText l file max_levels l.nodes k s.0) root h2 in
    let ends : record_end l file l.root ≡ l.strings = ap (record_end l file) (sym root) ∙ s.3 ∙ end in (
      s.0,
      record {
        header = is.header;
        text = subst (λ (k : Layout). NodeText k file max_levels k.nodes k.root s.0) is.layout h3;
        whole = subst (λ (k : Layout). record_end k file k.root ≡ k.strings) is.layout ends;
      },
    )
