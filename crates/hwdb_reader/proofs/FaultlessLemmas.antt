-- No fault applies to a database.
use Rattle.std.proofs.Common.{◌≡◌, ◌≤◌, ◌<◌, ◌⊎◌, ℕ, zero, suc, ◌+◌, ◌-◌, ◌*◌, List, [], ◌∷◌, length, Option, Some, None, refl, sym, ◌∙◌, ap, subst, arith, inl, inr}
use Rattle.std.specs.Cmp.Lexicographic.{slice_cmp}
use Rattle.std.specs.Ordering.{nat_cmp}
use Rattle.std.specs.declared.cmp.Ordering.TheVariants.{Less}
use Rattle.hwdb_spec.specs.declared.Layout.{Layout}
use Rattle.hwdb_spec.specs.declared.DbFault.{DbFault}
use Rattle.hwdb_spec.specs.declared.DbFault.TheVariants.{Short, Signature, RecordSizes, Lengths, Strings, Place, Depth, ChildOrder, StringOffset, KeyOrder, Priority}
use Rattle.hwdb_spec.specs.Tree.{Value, Tree, Children, count}
use Rattle.hwdb_spec.specs.Tree.Tree.{Node}
use Rattle.hwdb_spec.specs.Tree.Children.{NoMore, Child}
use Rattle.hwdb_spec.specs.Format.{number_at, IsPlace, IsValue, text_at, value_at, ValuesText, NodeText, ChildrenText, child_entry, children_count, child_byte, child_off, value_entries, values_count, record_end, layout_of, max_levels, IsHeader, IsDatabase, IsField, ValuesFault, Fits, child_from, Visit, Visited, byte_before, NodeFault, IsVisitFault, HeaderFault, Applies}
use Rattle.hwdb_spec.specs.Format.Visited.{Root, Below}
use Rattle.hwdb_reader.specs.Internal.Placed.{visit}
use Rattle.hwdb_reader.proofs.BoundLemmas.{children_room, begins_before}
use Rattle.hwdb_reader.proofs.WholeLemmas.{large_nodes, root_fits}

module _ (l : Layout) (b : List ℕ) where
  values_stand : (entry : ℕ) (before : Option (List ℕ)) (vs : List Value) (i : ℕ) → ValuesText l b entry before vs → i < length vs → IsValue l b (entry + l.value_size * i)
  unfolding ValuesText
  values_stand entry before [] i h lt = absurd (omega arith)
  values_stand entry before (v ∷ vs) zero h lt =
      let e : entry ≡ entry + l.value_size * 0 = omega arith in
      subst (λ m. IsValue l b m) e h.0
  values_stand entry before (v ∷ vs) (suc i) h lt =
      let e : entry + l.value_size + l.value_size * i ≡ entry + l.value_size * suc i = omega arith in
      subst (λ m. IsValue l b m) e (values_stand (entry + l.value_size) (Some v.key) vs i h.3 (omega arith))

  IsRising : ℕ → Type 0
  IsRising entry = slice_cmp nat_cmp (text_at b (number_at 8 entry b)) (text_at b (number_at 8 (entry + l.value_size) b)) ≡ Less

  keys_stand : (entry : ℕ) (before : Option (List ℕ)) (vs : List Value) (i : ℕ) → ValuesText l b entry before vs → i + 1 < length vs → IsRising (entry + l.value_size * i)
  unfolding ValuesText value_at IsRising
  keys_stand entry before [] i h lt = absurd (omega arith)
  keys_stand entry before (v ∷ []) i h lt = absurd (omega arith)
  keys_stand entry before (v ∷ w ∷ vs) zero h lt =
      let e : entry ≡ entry + l.value_size * 0 = omega arith in
      let first : v.key ≡ text_at b (number_at 8 entry b) = ap (λ (u : Value). u.key) h.1 in
      let second : w.key ≡ text_at b (number_at 8 (entry + l.value_size) b) = ap (λ (u : Value). u.key) h.3.1 in
      let above : slice_cmp nat_cmp v.key w.key ≡ Less = h.3.2 in
      subst (λ m. IsRising m) e (subst (λ k. slice_cmp nat_cmp (text_at b (number_at 8 entry b)) k ≡ Less) second (subst (λ k. slice_cmp nat_cmp k w.key ≡ Less) first above))
  keys_stand entry before (v ∷ w ∷ vs) (suc i) h lt =
      let e : entry + l.value_size + l.value_size * i ≡ entry + l.value_size * suc i = omega arith in
      subst (λ m. IsRising m) e (keys_stand (entry + l.value_size) (Some v.key) (w ∷ vs) i h.3 (omega arith))

  field_stands : (entry at : ℕ) → IsValue l b entry → IsField entry at → IsPlace l b (number_at 8 at b)
  field_stands entry at v (inl e) = subst (λ m. IsPlace l b (number_at 8 m b)) (sym e) v.key
  field_stands entry at v (inr (inl e)) = subst (λ m. IsPlace l b (number_at 8 m b)) (sym e) v.value
  field_stands entry at v (inr (inr e)) = subst (λ m. IsPlace l b (number_at 8 m b)) (sym e) v.path

  values_sound : (first n : ℕ) (vs : List Value) → ValuesText l b first None vs → length vs ≡ n → (e : DbFault) → ValuesFault l b first n e → ⊥
  unfolding IsRising
  values_sound first n vs h same (KeyOrder at) f = f.3.2 (keys_stand first None vs f.0 h (omega (arith, f.1, same)))
  values_sound first n vs h same (StringOffset at) f =
      let v = values_stand first None vs f.0 h (omega (arith, f.1, same)) in
      f.2.1 (field_stands _ at v f.2.0)
  values_sound first n vs h same (Priority at) f =
      let v = values_stand first None vs f.0 h (omega (arith, f.1, same)) in
      let some = v.priority in let none = f.2.1 in absurd (omega (arith, some, none))
  values_sound first n vs h same Short f = absurd f.2
  values_sound first n vs h same Signature f = absurd f.2
  values_sound first n vs h same RecordSizes f = absurd f.2
  values_sound first n vs h same Lengths f = absurd f.2
  values_sound first n vs h same Strings f = absurd f.2
  values_sound first n vs h same (Place at) f = absurd f.2
  values_sound first n vs h same (Depth at) f = absurd f.2
  values_sound first n vs h same (ChildOrder at) f = absurd f.2

  record ChildStands (levels from off end i : ℕ) : Type 0 where
    pub tree : Tree
    pub text : NodeText l b levels (child_from l b from off i) (child_off b (child_entry l off i)) tree
    pub inside : record_end l b (child_off b (child_entry l off i)) ≤ end
    pub byte : byte_before l b off i < child_byte b (child_entry l off i)

  children_stand : (big : 24 ≤ l.node_size) (levels from off end i n k start entry byte : ℕ) (ks : Children) → i ≡ n + k → start ≡ child_from l b from off n → entry ≡ child_entry l off n → byte ≡ byte_before l b off n → ChildrenText l b levels start entry byte end ks → k < count ks → ChildStands levels from off end i
  unfolding NodeText count child_from byte_before
  children_stand big levels from off end i n k start entry byte NoMore ei es ee eb h lt = absurd (omega (arith, lt))
  children_stand big levels from off end i n zero start entry byte (Child c t more) ei es ee eb h lt =
      let p : n ≡ i = omega (arith, ei) in
      let room = children_room l b big levels (record_end l b (child_off b entry)) (entry + l.child_size) c end more h.3 in
      let within : record_end l b (child_off b entry) ≤ end = omega (arith, room) in
      subst (λ m. ChildStands levels from off end m) p
      (record {
        tree = t;
        text = subst (λ s. NodeText l b levels s (child_off b (child_entry l off n)) t) es (subst (λ e. NodeText l b levels start (child_off b e) t) ee h.2);
        inside = subst (λ e. record_end l b (child_off b e) ≤ end) ee within;
        byte = subst (λ x. x < child_byte b (child_entry l off n)) eb (subst (λ e. byte < child_byte b e) ee (subst (λ x. byte < x) h.1 h.0));
      })
  children_stand big levels from off end i n (suc k) start entry byte (Child c t more) ei es ee eb h lt =
      children_stand big levels from off end i (suc n) k (record_end l b (child_off b entry)) (entry + l.child_size) c more (omega (arith, ei)) (ap (λ e. record_end l b (child_off b e)) ee) (omega (arith, ee)) (h.1 ∙ ap (λ e. child_byte b e) ee) h.3 (omega (arith, lt))

  children_end : (levels from off end m n start entry byte : ℕ) (ks : Children) → m ≡ n + count ks → start ≡ child_from l b from off n → entry ≡ child_entry l off n → ChildrenText l b levels start entry byte end ks → child_from l b from off m ≡ end
  unfolding NodeText count child_from
  children_end levels from off end m n start entry byte NoMore em es ee h =
      let p : m ≡ n = omega (arith, em) in ap (λ i. child_from l b from off i) p ∙ sym es ∙ h
  children_end levels from off end m n start entry byte (Child c t more) em es ee h =
      children_end levels from off end m (suc n) (record_end l b (child_off b entry)) (entry + l.child_size) c more (omega (arith, em)) (ap (λ e. record_end l b (child_off b e)) ee) (omega (arith, ee)) h.3

  child_stands : (big : 24 ≤ l.node_size) (levels from off i : ℕ) (t : Tree) → NodeText l b (suc levels) from off t → i < children_count b off → ChildStands levels from off off i
  unfolding NodeText child_from byte_before
  child_stands big levels from off i (Node prefix values children) h lt =
      children_stand big levels from off off i 0 i from (child_entry l off 0) 0 children (omega arith) refl refl refl h.5 (omega (arith, lt, h.4))

  node_sound : (big : 24 ≤ l.node_size) (levels from off : ℕ) (t : Tree) → NodeText l b levels from off t → (limit : ℕ) (e : DbFault) → NodeFault l b (visit levels from off limit) e → ⊥
  unfolding NodeText child_from byte_before
  node_sound big zero from off (Node prefix values children) h limit e f = absurd h
  node_sound big (suc levels) from off (Node prefix values children) h limit (Place at) f =
      f.2 (children_end levels from off off (children_count b off) 0 from (child_entry l off 0) 0 children (omega (arith, h.4)) refl refl h.5)
  node_sound big (suc levels) from off (Node prefix values children) h limit (Depth at) f = let e = f.1 in absurd (omega (arith, e))
  node_sound big (suc levels) from off (Node prefix values children) h limit (ChildOrder at) f =
      let s = child_stands big levels from off f.0 (Node prefix values children) h f.1 in
      f.3 (subst (λ m. byte_before l b off f.0 < child_byte b m) (sym f.2) s.byte)
  node_sound big (suc levels) from off (Node prefix values children) h limit (StringOffset at) (inl f) =
      f.1 (subst (λ m. IsPlace l b (number_at 8 m b)) (sym f.0) h.0)
  node_sound big (suc levels) from off (Node prefix values children) h limit (StringOffset at) (inr f) = values_sound (value_entries l b off) (values_count b off) values h.3 h.2 (StringOffset at) f
  node_sound big (suc levels) from off (Node prefix values children) h limit (KeyOrder at) f = values_sound (value_entries l b off) (values_count b off) values h.3 h.2 (KeyOrder at) f
  node_sound big (suc levels) from off (Node prefix values children) h limit (Priority at) f = values_sound (value_entries l b off) (values_count b off) values h.3 h.2 (Priority at) f
  node_sound big (suc levels) from off (Node prefix values children) h limit Short f = values_sound (value_entries l b off) (values_count b off) values h.3 h.2 Short f
  node_sound big (suc levels) from off (Node prefix values children) h limit Signature f = values_sound (value_entries l b off) (values_count b off) values h.3 h.2 Signature f
  node_sound big (suc levels) from off (Node prefix values children) h limit RecordSizes f = values_sound (value_entries l b off) (values_count b off) values h.3 h.2 RecordSizes f
  node_sound big (suc levels) from off (Node prefix values children) h limit Lengths f = values_sound (value_entries l b off) (values_count b off) values h.3 h.2 Lengths f
  node_sound big (suc levels) from off (Node prefix values children) h limit Strings f = values_sound (value_entries l b off) (values_count b off) values h.3 h.2 Strings f

  record NodeStands (v : Visit) : Type 0 where
    pub tree : Tree
    pub text : NodeText l b v.levels v.from v.off tree
    pub inside : record_end l b v.off ≤ v.limit

  visited_stands : (big : 24 ≤ l.node_size) (t : Tree) → NodeText l b max_levels l.nodes l.root t → record_end l b l.root ≤ l.strings → {v : Visit} → Visited l b v → NodeStands v
  visited_stands big t h w Root = record { tree = t; text = h; inside = w }
  visited_stands big t h w (Below {v} i r some fits lt before) =
      let s = visited_stands big t h w r in
      let k : v.levels ≡ suc (v.levels - 1) = omega arith in
      let c = child_stands big (v.levels - 1) v.from v.off i s.tree (subst (λ m. NodeText l b m v.from v.off s.tree) k s.text) lt in
      record { tree = c.tree; text = c.text; inside = c.inside }

  visited_sound : (big : 24 ≤ l.node_size) (v : Visit) (e : DbFault) → NodeStands v → (Fits l b v × NodeFault l b v e) ⊎ (¬ Fits l b v × (e ≡ Place v.off)) → ⊥
  visited_sound big v e s (inl f) = node_sound big v.levels v.from v.off s.tree s.text v.limit e f.1
  visited_sound big v e s (inr f) = f.0 (begins_before l b big v.levels v.from v.off s.tree s.text, s.inside)

pub header_sound : (b : List ℕ) (e : DbFault) → IsHeader b → HeaderFault b e → ⊥
header_sound b Short h f = f h.long
header_sound b Signature h f = f.1 h.signed
header_sound b RecordSizes h f = f.2 h.sizes
header_sound b Lengths h f = f.3 h.lengths
header_sound b Strings h f = f.4 h.strings
header_sound b (Place at) h f = absurd f
header_sound b (Depth at) h f = absurd f
header_sound b (ChildOrder at) h f = absurd f
header_sound b (StringOffset at) h f = absurd f
header_sound b (KeyOrder at) h f = absurd f
header_sound b (Priority at) h f = absurd f

stands_not : (b : List ℕ) (t : Tree) (e : DbFault) → IsDatabase b t → IsVisitFault (layout_of b) b e → ⊥
unfolding IsVisitFault
stands_not b t e d s =
    let big = large_nodes b d.header in
    let fits = root_fits b t d in
    let below = fits.1 in
    visited_sound (layout_of b) b big s.0 e (visited_stands (layout_of b) b big t d.text below s.1) s.2

pub faultless : (b : List ℕ) (t : Tree) (e : DbFault) → IsDatabase b t → Applies b e → ⊥
unfolding Applies
faultless b t e d (inl f) = header_sound b e d.header f
faultless b t e d (inr (h, inl s)) = stands_not b t e d s
faultless b t e d (inr (h, inr f)) = f.1 d.whole
