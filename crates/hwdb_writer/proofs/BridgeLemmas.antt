-- The written form is a database.
use Rattle.std.proofs.Common.{◌≡◌, ◌≤◌, ◌<◌, ℕ, zero, suc, ◌+◌, ◌-◌, ◌*◌, ◌^◌, List, [], ◌∷◌, ◌++◌, length, take, get_or, Option, Some, None, refl, sym, ◌∙◌, ap, subst, arith, length-append, append_assoc, inl, inr, ⊎_elim}
use Rattle.std.specs.Prelude.{codes, flat_map}
use Rattle.std.specs.List.{AllByRecursion}
use Rattle.byteorder.specs.Endian.{little_bytes}
use Rattle.hwdb_spec.specs.declared.Layout.{Layout}
use Rattle.hwdb_spec.specs.Tree.{Value, Tree, Children, count, IsTree, BytesAscend, KeysAscend}
use Rattle.hwdb_spec.specs.Tree.Tree.{Node}
use Rattle.hwdb_spec.specs.Tree.Children.{NoMore, Child}
use Rattle.hwdb_spec.specs.Format.{number_at, text_at, prefix_off, children_count, values_count, record_end, value_at, IsPlace, IsValue, ValuesText, NodeText, ChildrenText, layout_of, IsHeader, IsDatabase}
use Rattle.hwdb_spec.specs.Written.{strings_of, strings_below, strings_of_value, table_of, section_of, ended, place_of, text_size, texts_size, record_at, padding, value_text, entries_text, node_text, nodes_text, header_text, written}
use Rattle.hwdb_writer.specs.Internal.Storable.{HasNoZero, IsText, IsStorableValue, IsStorable, AreStorable, IsSound}
use Rattle.hwdb_writer.proofs.LengthLemmas.{length-node, length-nodes, length-entries, length-value}
use Rattle.hwdb_writer.proofs.WholeLemmas.{length-written}
use Rattle.hwdb_writer.proofs.ReadBackLemmas.{Stands, stands_front, stands_back, stands_bound, stands_same, number_read, byte_read, text_read, place_stands, place_above, last_zero}
use Rattle.hwdb_text.specs.Lemmas.Ascending.{IsOrdered, ascending_ordered, holds_ascending}
use Rattle.hwdb_text.specs.Lemmas.Members.{Holds}

-- the layout of what is written
abbrev sizes : ℕ → ℕ → Layout
sizes root strings = record { node_size = 24; child_size = 16; value_size = 32; nodes = 80; root = root; strings = strings }

holds_left : (xs ys : List (List ℕ)) (s : List ℕ) → Holds xs s → Holds (xs ++ ys) s
holds_left [] ys s h = absurd h
holds_left (x ∷ xs) ys s h = ⊎_elim {C = Holds ((x ∷ xs) ++ ys) s} (λ e. inl e) (λ r. inr (holds_left xs ys s r)) h

holds_right : (xs ys : List (List ℕ)) (s : List ℕ) → Holds ys s → Holds (xs ++ ys) s
holds_right [] ys s h = h
holds_right (x ∷ xs) ys s h = inr (holds_right xs ys s h)

no_zero : (s : List ℕ) → IsText s → HasNoZero s
no_zero [] t = tt
no_zero (c ∷ s) t = (t.0, no_zero s t.2)

front5 : (b : List ℕ) (i : ℕ) (n p q r x y : List ℕ) → Stands b i (n ++ p ++ q ++ r ++ x ++ y) → Stands b i n
front5 b i n p q r x y st =
    stands_front b i n p (stands_front b i (n ++ p) q (stands_front b i (n ++ p ++ q) r (stands_front b i (n ++ p ++ q ++ r) x (stands_front b i (n ++ p ++ q ++ r ++ x) y st))))

-- Bytes b, fewer than 2 ^ 64. Their string section begins at `strings`, with the table there.
module _ (b : List ℕ) (root strings : ℕ) (table : List (List ℕ)) (o : IsOrdered table) (section : Stands b strings (section_of table)) (small : length b < 2 ^ 64) where
  abbrev L : Layout
  L = sizes root strings

  abbrev place : List ℕ → ℕ
  place = place_of strings table

  pub record Found (s : List ℕ) (n : ℕ) : Type 0 where
    inside : IsPlace L b n
    reads : text_at b n ≡ s

  abbrev Known : List (List ℕ) → Type 0
  Known ss = (s : List ℕ) → Holds ss s → Holds table s

  placed : (s : List ℕ) → Holds table s → place s + length s < length b
  placed s h =
      let st = place_stands b strings table s o h section in
      let l = length-append s (0 ∷ []) in
      let k = stands_bound b (place s) (ended s) (omega (arith, l)) st in
      omega (arith, k, l)

  -- what a field that names a string gives
  found_at : (s : List ℕ) (at : ℕ) → Holds table s → HasNoZero s → Stands b at (little_bytes 8 (place s)) → Found s (number_at 8 at b)
  found_at s at h n st =
      let p = placed s h in
      let e = number_read b 8 at (place s) (omega (arith, p, small)) st in
      let P : ℕ → Type 0 = λ k. Found s k in
      subst P (sym e) (record {
        inside = record { above = place_above strings table s; below = omega (arith, p) };
        reads = text_read b (place s) s n (place_stands b strings table s o h section);
      })

  -- one value entry
  record Entry (v : Value) (entry : ℕ) : Type 0 where
    is_value : IsValue L b entry
    reads : v ≡ value_at b entry

  value_ok : (v : Value) (entry : ℕ) → IsStorableValue v → Known (strings_of_value v) → Stands b entry (value_text place v) → Entry v entry
  unfolding value_at
  value_ok v entry g k st =
      let p = little_bytes 8 (place v.key) in
      let q = little_bytes 8 (place v.value) in
      let r = little_bytes 8 (place v.path) in
      let x = little_bytes 4 v.line in
      let y = little_bytes 2 v.priority in
      let f4 = stands_front b entry (p ++ q ++ r ++ x ++ y) (padding 2) st in
      let f3 = stands_front b entry (p ++ q ++ r ++ x) y f4 in
      let f2 = stands_front b entry (p ++ q ++ r) x f3 in
      let f1 = stands_front b entry (p ++ q) r f2 in
      let key_st = stands_front b entry p q f1 in
      let value_st = stands_back b entry 8 p q refl f1 in
      let path_st = stands_back b entry 16 (p ++ q) r refl f2 in
      let line_st = stands_back b entry 24 (p ++ q ++ r) x refl f3 in
      let priority_st = stands_back b entry 28 (p ++ q ++ r ++ x) y refl f4 in
      let key = found_at v.key entry (k v.key (inl refl)) g.key key_st in
      let value = found_at v.value (entry + 8) (k v.value (inr (inl refl))) g.value value_st in
      let path = found_at v.path (entry + 16) (k v.path (inr (inr (inl refl)))) g.path path_st in
      let line = number_read b 4 (entry + 24) v.line g.line_fits line_st in
      let priority = number_read b 2 (entry + 28) v.priority g.priority_fits priority_st in
      record {
        is_value = record { key = key.inside; value = value.inside; path = path.inside; priority = omega (arith, priority, g.some_priority) };
        reads = λ i. record { priority = sym priority i; line = sym line i; key = sym key.reads i; value = sym value.reads i; path = sym path.reads i };
      }

  pub values_ok : (entry : ℕ) (before : Option (List ℕ)) (vs : List Value) → Stands b entry (flat_map (value_text place) vs) → AllByRecursion IsStorableValue vs → Known (flat_map strings_of_value vs) → KeysAscend before vs → ValuesText L b entry before vs
  unfolding ValuesText
  values_ok entry before [] st g k a = tt
  values_ok entry before (v ∷ vs) st g k a =
      let e = value_ok v entry g.0 (λ s h. k s (holds_left (strings_of_value v) (flat_map strings_of_value vs) s h)) (stands_front b entry (value_text place v) (flat_map (value_text place) vs) st) in
      let rest = stands_back b entry 32 (value_text place v) (flat_map (value_text place) vs) (sym (length-value place v)) st in
      (e.is_value, e.reads, a.0, values_ok (entry + 32) (Some v.key) vs rest g.1 (λ s h. k s (holds_right (strings_of_value v) (flat_map strings_of_value vs) s h)) a.1)

  -- a node's text, and where its record ends
  pub record Ok (levels from : ℕ) (t : Tree) : Type 0 where
    pub text : NodeText L b levels from (record_at from t) t
    pub ends : record_end L b (record_at from t) ≡ from + text_size t

  -- the fields of a node's record
  pub record Fields (prefix : List ℕ) (values : List Value) (children : Children) (off from : ℕ) : Type 0 where
    prefix_ok : Found prefix (prefix_off b off)
    children_ok : children_count b off ≡ count children
    values_count : values_count b off ≡ length values
    entries : Stands b (off + 24) (entries_text place from children)
    values_at : Stands b (off + 24 + 16 * count children) (flat_map (value_text place) values)

  pub fields : (prefix : List ℕ) (values : List Value) (children : Children) (off from : ℕ) → Holds table prefix → HasNoZero prefix → length values < 2 ^ 64 →
      Stands b off (little_bytes 8 (place prefix) ++ count children ∷ padding 7 ++ little_bytes 8 (length values) ++ entries_text place from children ++ flat_map (value_text place) values) → Fields prefix values children off from
  fields prefix values children off from h n lt st =
      let p = little_bytes 8 (place prefix) in
      let q = count children ∷ padding 7 in
      let r = little_bytes 8 (length values) in
      let x = entries_text place from children in
      let y = flat_map (value_text place) values in
      let f3 = stands_front b off (p ++ q ++ r ++ x) y st in
      let f2 = stands_front b off (p ++ q ++ r) x f3 in
      let f1 = stands_front b off (p ++ q) r f2 in
      let count_st = stands_back b off 8 p q refl f1 in
      let number_st = stands_back b off 16 (p ++ q) r refl f2 in
      let l = length-append (p ++ q ++ r) x in
      let e = length-entries place from children in
      let back = stands_back b off (24 + 16 * count children) (p ++ q ++ r ++ x) y (omega (arith, l, e)) st in
      record {
        prefix_ok = found_at prefix off h n (stands_front b off p q f1);
        children_ok = byte_read b (off + 8) (count children) (padding 7) count_st;
        values_count = number_read b 8 (off + 16) (length values) lt number_st;
        entries = stands_back b off 24 (p ++ q ++ r) x refl f3;
        values_at = stands_same b (off + (24 + 16 * count children)) (off + 24 + 16 * count children) y y (omega arith) refl back;
      }

  record_below : (from : ℕ) (t : Tree) → record_at from t + 24 ≤ from + text_size t
  unfolding record_at text_size
  record_below from (Node prefix values children) = omega arith

  record_above : (from : ℕ) (t : Tree) → from ≤ record_at from t
  unfolding record_at
  record_above from (Node prefix values children) = omega arith

  text_bound : (from : ℕ) (t : Tree) → Stands b from (node_text place from t) → from + text_size t ≤ length b
  text_bound from t st =
      let l = length-node place from t in
      let r = record_below from t in
      let above = record_above from t in
      let k = stands_bound b from (node_text place from t) (omega (arith, l, r, above)) st in
      omega (arith, l, k)

  mutual
    unfolding NodeText record_end record_at text_size node_text entries_text strings_of IsTree IsStorable count

    pub node_ok : (used levels from : ℕ) (t : Tree) → 4097 ≤ used + levels → IsTree t → IsStorable used t → Known (strings_of t) → Stands b from (node_text place from t) → Ok levels from t
    node_ok used zero from (Node prefix values children) deep a s k st = absurd (omega (arith, deep, s.1))
    node_ok used (suc levels) from (Node prefix values children) deep a s k st =
        let p = little_bytes 8 (place prefix) in
        let q = count children ∷ padding 7 in
        let r = little_bytes 8 (length values) in
        let x = entries_text place from children in
        let y = flat_map (value_text place) values in
        let nodes = nodes_text place from children in
        let off = from + texts_size children in
        let kids = λ (h : Stands b (off + 24) (entries_text place from children)). kids_ok (used + length prefix + 1) levels from (off + 24) 0 off children refl (omega (arith, deep)) a.1 s.3
        (λ z h. k z (holds_right (prefix ∷ flat_map strings_of_value values) (strings_below children) z h)) (front5 b from nodes p q r x y st) h in
        let bound = text_bound from (Node prefix values children) st in
        let f = fields prefix values children off from (k prefix (inl refl)) (no_zero prefix s.0) (omega (arith, bound, small))
        (stands_back b from (texts_size children) nodes (p ++ q ++ r ++ x ++ y) (sym (length-nodes place from children)) (stands_same b from from _ (nodes ++ (p ++ q ++ r ++ x ++ y)) refl (simp append_assoc) st)) in
        let V : ℕ → Type 0 = λ n. ValuesText L b n None values in
        let C : ℕ → Type 0 = λ n. ChildrenText L b levels from n 0 off children in
        let vs = values_ok (off + 24 + 16 * count children) None values f.values_at s.2 (λ z h. k z (inr (holds_left (flat_map strings_of_value values) (strings_below children) z h))) a.0 in
        let c = f.children_ok in
        let n = f.values_count in
        record {
          text = (f.prefix_ok.inside, sym f.prefix_ok.reads, sym n, subst V (ap (λ m. off + 24 + 16 * m) (sym c)) vs, sym c, subst C (omega arith) (kids f.entries));
          ends = omega (arith, c, n);
        }

    pub kids_ok : (used levels from entry byte end : ℕ) (ks : Children) → end ≡ from + texts_size ks → 4097 ≤ used + levels → BytesAscend byte ks → AreStorable used ks → Known (strings_below ks) → Stands b from (nodes_text place from ks) → Stands b entry (entries_text place from ks) →
        ChildrenText L b levels from entry byte end ks
    kids_ok used levels from entry byte end NoMore e deep a s k st en = omega (arith, e)
    kids_ok used levels from entry byte end (Child c t more) e deep a s k st en =
        let text = stands_front b from (node_text place from t) (nodes_text place (from + text_size t) more) st in
        let h = node_ok used levels from t deep a.1 s.2 (λ z g. k z (holds_left (strings_of t) (strings_below more) z g)) text in
        let next = stands_back b from (text_size t) (node_text place from t) (nodes_text place (from + text_size t) more) (sym (length-node place from t)) st in
        let bound = text_bound from t text in
        let below = record_below from t in
        let q = c ∷ padding 7 in
        let r = little_bytes 8 (record_at from t) in
        let rest = entries_text place (from + text_size t) more in
        let e1 = stands_front b entry (q ++ r) rest en in
        let f = number_read b 8 (entry + 8) (record_at from t) (omega (arith, bound, below, small)) (stands_back b entry 8 q r refl e1) in
        let others = kids_ok used levels (from + text_size t) (entry + 16) c end more (omega (arith, e)) deep a.2 s.3 (λ z g. k z (holds_right (strings_of t) (strings_below more) z g)) next (stands_back b entry 16 (q ++ r) rest refl en) in
        let N : ℕ → Type 0 = λ n. NodeText L b levels from n t in
        let C : ℕ → Type 0 = λ n. ChildrenText L b levels n (entry + 16) c end more in
        (a.0, sym (byte_read b entry c (padding 7) (stands_front b entry q r e1)), subst N (sym f) h.text, subst C (sym (ap (record_end L b) f ∙ h.ends)) others)

-- numbers of 8 bytes, one after another
numbers_next : (b : List ℕ) (i n : ℕ) (ns : List ℕ) → n < 2 ^ 64 → Stands b i (flat_map (little_bytes 8) (n ∷ ns)) → (number_at 8 i b ≡ n) × Stands b (i + 8) (flat_map (little_bytes 8) ns)
numbers_next b i n ns lt st =
    (number_read b 8 i n lt (stands_front b i (little_bytes 8 n) (flat_map (little_bytes 8) ns) st), stands_back b i 8 (little_bytes 8 n) (flat_map (little_bytes 8) ns) refl st)

-- what the header of bytes says
record Header (b : List ℕ) (file root nodes strings : ℕ) : Type 0 where
  file_is : number_at 8 16 b ≡ file
  header_is : number_at 8 24 b ≡ 80
  node_is : number_at 8 32 b ≡ 24
  child_is : number_at 8 40 b ≡ 16
  value_is : number_at 8 48 b ≡ 32
  root_is : number_at 8 56 b ≡ root
  nodes_is : number_at 8 64 b ≡ nodes
  strings_is : number_at 8 72 b ≡ strings

header_read : (b : List ℕ) (file root nodes strings : ℕ) → file < 2 ^ 64 → root < 2 ^ 64 → nodes < 2 ^ 64 → strings < 2 ^ 64 →
    Stands b 8 (flat_map (little_bytes 8) (1 ∷ file ∷ 80 ∷ 24 ∷ 16 ∷ 32 ∷ root ∷ nodes ∷ strings ∷ [])) → Header b file root nodes strings
header_read b file root nodes strings lf lr ln ls st =
    let a = numbers_next b 8 1 (file ∷ 80 ∷ 24 ∷ 16 ∷ 32 ∷ root ∷ nodes ∷ strings ∷ []) (omega arith) st in
    let c = numbers_next b 16 file (80 ∷ 24 ∷ 16 ∷ 32 ∷ root ∷ nodes ∷ strings ∷ []) lf a.1 in
    let d = numbers_next b 24 80 (24 ∷ 16 ∷ 32 ∷ root ∷ nodes ∷ strings ∷ []) (omega arith) c.1 in
    let e = numbers_next b 32 24 (16 ∷ 32 ∷ root ∷ nodes ∷ strings ∷ []) (omega arith) d.1 in
    let f = numbers_next b 40 16 (32 ∷ root ∷ nodes ∷ strings ∷ []) (omega arith) e.1 in
    let g = numbers_next b 48 32 (root ∷ nodes ∷ strings ∷ []) (omega arith) f.1 in
    let h = numbers_next b 56 root (nodes ∷ strings ∷ []) lr g.1 in
    let j = numbers_next b 64 nodes (strings ∷ []) ln h.1 in
    let k = numbers_next b 72 strings [] ls j.1 in
    record { file_is = c.0; header_is = d.0; node_is = e.0; child_is = f.0; value_is = g.0; root_is = h.0; nodes_is = j.0; strings_is = k.0 }

-- a table that holds a string has a section
some_table : (b : List ℕ) (from : ℕ) (table : List (List ℕ)) (s : List ℕ) → Holds table s → Stands b from (section_of table) → (0 < length (section_of table)) × (get_or b (from + length (section_of table) - 1) 0 ≡ 0)
some_table b from [] s h st = absurd h
some_table b from (t ∷ ts) s h st =
    let l = length-append (ended t) (section_of ts) in
    let k = length-append t (0 ∷ []) in
    (omega (arith, l, k), last_zero b from t ts st)

root_bound : (from : ℕ) (t : Tree) → record_at from t + 24 ≤ from + text_size t
unfolding record_at text_size
root_bound from (Node prefix values children) = omega arith

append_nil : (xs : List ℕ) → xs ++ [] ≡ xs
append_nil [] = refl
append_nil (x ∷ xs) = ap (λ ys. x ∷ ys) (append_nil xs)

module _ (t : Tree) (s : IsSound t) (small : length (written t) < 2 ^ 64) where
  abbrev b : List ℕ
  b = written t

  abbrev table : List (List ℕ)
  table = table_of t

  abbrev nodes : List ℕ
  nodes = node_text (place_of (80 + text_size t) table) 80 t

  long : length b ≡ 80 + text_size t + length (section_of table)
  long = length-written t

  whole_st : Stands b 0 (header_text t ++ nodes ++ section_of table)
  unfolding written
  whole_st = record { rest = []; is = sym (append_nil (header_text t ++ nodes ++ section_of table)) }

  header_st : Stands b 8 (flat_map (little_bytes 8) (1 ∷ (80 + text_size t + length (section_of table)) ∷ 80 ∷ 24 ∷ 16 ∷ 32 ∷ record_at 80 t ∷ text_size t ∷ length (section_of table) ∷ []))
  header_st =
      let f = stands_front b 0 (header_text t) nodes (stands_front b 0 (header_text t ++ nodes) (section_of table) whole_st) in
      stands_back b 0 8 (codes "KSLPHHRH") (flat_map (little_bytes 8) (1 ∷ (80 + text_size t + length (section_of table)) ∷ 80 ∷ 24 ∷ 16 ∷ 32 ∷ record_at 80 t ∷ text_size t ∷ length (section_of table) ∷ [])) refl f

  nodes_st : Stands b 80 nodes
  nodes_st = stands_back b 0 80 (header_text t) nodes refl (stands_front b 0 (header_text t ++ nodes) (section_of table) whole_st)

  section_st : Stands b (80 + text_size t) (section_of table)
  section_st =
      let l = length-append (header_text t) nodes in
      let n = length-node (place_of (80 + text_size t) table) 80 t in
      stands_same b (0 + (80 + text_size t)) (80 + text_size t) (section_of table) (section_of table) (omega arith) refl
      (stands_back b 0 (80 + text_size t) (header_text t ++ nodes) (section_of table) (omega (arith, l, n)) whole_st)

  empty_held : Holds table []
  empty_held = holds_ascending ([] ∷ strings_of t) [] (inl refl)

  root_below : record_at 80 t + 24 ≤ 80 + text_size t
  root_below = root_bound 80 t

  head : Header b (80 + text_size t + length (section_of table)) (record_at 80 t) (text_size t) (length (section_of table))
  head = header_read b _ _ _ _ (omega (arith, long, small)) (omega (arith, long, small, root_below)) (omega (arith, long, small)) (omega (arith, long, small)) header_st

  layout_is : layout_of b ≡ sizes (record_at 80 t) (80 + text_size t)
  unfolding layout_of
  layout_is = λ i. record { node_size = head.node_is i; child_size = head.child_is i; value_size = head.value_is i; nodes = head.header_is i; root = head.root_is i; strings = head.header_is i + head.nodes_is i }

  ok : Ok b (record_at 80 t) (80 + text_size t) table (ascending_ordered ([] ∷ strings_of t)) section_st small 4097 80 t
  ok = node_ok b (record_at 80 t) (80 + text_size t) table (ascending_ordered ([] ∷ strings_of t)) section_st small 0 4097 80 t (omega arith) s.ordered s.storable (λ z h. holds_ascending ([] ∷ strings_of t) z (inr h)) nodes_st

  signed_ok : take 8 b ≡ codes "KSLPHHRH"
  unfolding written
  signed_ok = refl

  is_header : IsHeader b
  is_header =
      let z = some_table b (80 + text_size t) table [] empty_held section_st in
      record {
        long = omega (arith, long);
        signed = signed_ok;
        sizes = record { header = omega (arith, head.header_is); node = omega (arith, head.node_is); child = omega (arith, head.child_is); value = omega (arith, head.value_is) };
        lengths = record { file = head.file_is ∙ sym long; parts = omega (arith, head.header_is, head.nodes_is, head.strings_is, long) };
        strings = record { some = omega (arith, head.strings_is, z.0); ended = ap (λ n. get_or b n 0) (omega (arith, long)) ∙ z.1 };
      }

  pub is_database : IsDatabase b t
  is_database =
      let P : Layout → Type 0 = λ l. (NodeText l b 4097 l.nodes l.root t) × (record_end l b l.root ≡ l.strings) in
      let h = subst P (sym layout_is) (ok.text, ok.ends) in
      record { header = is_header; text = h.0; whole = h.1 }
