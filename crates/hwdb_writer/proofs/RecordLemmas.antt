-- A node's record, after those of the nodes before it.
use Rattle.std.proofs.Common.{◌≡◌, ◌≤◌, ◌<◌, ℕ, ◌+◌, ◌-◌, ◌*◌, ◌^◌, List, [], ◌∷◌, ◌++◌, map, length, get_or, take, drop, refl, sym, ◌∙◌, ap, subst, arith, length-append}
use Rattle.std.proofs.Math.Seq.{take-append_seam, drop-append_seam}
use Rattle.std.proofs.lemmas.List.{length-map, length-take-le, length-drop, get_or_default}
use Rattle.std.specs.Prelude.{flat_map}
use Rattle.byteorder.specs.Endian.{little_bytes}
use Rattle.hwdb_spec.specs.Written.{padding, value_text, entries_text, nodes_text, node_text, record_at, text_size, place_of, table_of, section_of}
use Rattle.hwdb_writer.specs.declared.entries.Setting.{Setting}
use Rattle.hwdb_writer.specs.declared.nodes.BuiltNode.{BuiltNode}
use Rattle.hwdb_writer.specs.declared.stored.Stored.{Stored}
use Rattle.hwdb_writer.specs.declared.stored.StoredNode.{StoredNode}
use Rattle.hwdb_writer.specs.declared.stored.StoredValue.{StoredValue}
use Rattle.hwdb_writer.specs.Internal.Entries.{value_of}
use Rattle.hwdb_writer.specs.Internal.Narrow.{IsNarrow}
use Rattle.hwdb_writer.specs.Internal.PostOrder.{children_in, values_at, tree_of, IsPostOrder}
use Rattle.hwdb_writer.specs.Internal.Stored.{IsUnder, IsAt, IsValue, AreValues, IsNode, AreNodes, AreRecords, IsStored, IsLaidOut, all_values}
use Rattle.hwdb_writer.proofs.EmissionLemmas.{trees_at, no_node, fits_here, few_here, roomy_here, texts_step, entries_step, texts_begin, entries_begin, texts_end, root_is, has_nodes}
use Rattle.hwdb_writer.proofs.StoredLemmas.{pairs_length, pairs_at, pairs_take, pairs_drop, values_left, placed_at, nodes_by, values_by}

-- what there is once so many nodes have their records
pub record AreDone (place : List ℕ → ℕ) (places : List ℕ) (es : List Setting) (ns : List BuiltNode) (i : ℕ) (old out ch : List ℕ) (rest : List StoredValue) : Type 0 where
  pub texts : out ≡ old ++ nodes_text place (length old) (children_in (trees_at es ns i))
  pub entries : ch ≡ entries_text place (length old) (children_in (trees_at es ns i))
  pub left : AreValues (IsAt place places) rest (all_values es (drop i ns))

pub none_done : (place : List ℕ → ℕ) (places : List ℕ) (es : List Setting) (ns : List BuiltNode) (ss : List StoredNode) (vs : List StoredValue) → AreRecords place places es ns ss vs → (old ch : List ℕ) → ch ≡ [] →
    AreDone place places es ns 0 old old ch vs
none_done place places es ns ss vs r old ch e = record {
  texts = texts_begin es ns place old;
  entries = e ∙ entries_begin es ns place (length old);
  left = r.values;
}

module _ (place : List ℕ → ℕ) (places : List ℕ) (es : List Setting) (ns : List BuiltNode) (ss : List StoredNode) (vs : List StoredValue) (r : AreRecords place places es ns ss vs)
    (i : ℕ) (d : StoredNode) (lt : i < length ss) (old out ch : List ℕ) (rest : List StoredValue) (done : AreDone place places es ns i old out ch rest) where
  abbrev stored : StoredNode
  stored = get_or ss i d

  abbrev node : BuiltNode
  node = get_or ns i no_node

  among : i < length ns
  among = let long = pairs_length (IsNode (IsAt place places)) ss ns r.nodes in omega (arith, long, lt)

  own : IsNode (IsAt place places) stored node
  own = pairs_at (IsNode (IsAt place places)) ss ns i d no_node lt r.nodes

  pub known : stored.prefix < length places
  known = own.prefix.known

  pub few : stored.children < 256
  few = let f = few_here es ns r.order i no_node among r.narrow in let e = own.children in omega (arith, e, f)

  pub room : 16 * stored.children ≤ length ch
  room =
      let f = roomy_here es ns r.order i no_node among place old out ch done.texts done.entries in
      let e = own.children in
      omega (arith, e, f)

  abbrev vals : List Setting
  vals = take node.count (drop node.first es)

  counted : length (values_at es node) ≡ stored.count
  counted =
      let a = length-map vals value_of in
      let b = length-take-le node.count (drop node.first es) (let l = length-drop node.first es in let f = (fits_here es ns r.order i no_node among).among in omega (arith, l, f)) in
      let e = own.count in
      omega (arith, a, b, e)

  parted : all_values es (drop i ns) ≡ values_at es node ++ all_values es (drop (i + 1) ns)
  parted = values_left es ns i no_node among

  pub enough : stored.count ≤ length rest
  enough =
      let l = pairs_length (IsValue (IsAt place places)) rest (all_values es (drop i ns)) done.left in
      let p = ap length parted ∙ length-append (values_at es node) (all_values es (drop (i + 1) ns)) in
      let c = counted in
      omega (arith, l, p, c)

  pub own_values : (mine : List StoredValue) → mine ≡ take stored.count rest → AreValues (IsAt place places) mine (values_at es node)
  own_values mine e =
      subst (λ (l : List StoredValue). AreValues (IsAt place places) l (values_at es node)) (sym e)
      (subst (AreValues (IsAt place places) (take stored.count rest))
      (ap (take stored.count) parted ∙ ap (λ n. take n (values_at es node ++ all_values es (drop (i + 1) ns))) (sym counted) ∙ take-append_seam (values_at es node) (all_values es (drop (i + 1) ns)))
      (pairs_take (IsValue (IsAt place places)) stored.count rest (all_values es (drop i ns)) done.left))

  behind : AreValues (IsAt place places) (drop stored.count rest) (all_values es (drop (i + 1) ns))
  behind =
      subst (AreValues (IsAt place places) (drop stored.count rest))
      (ap (drop stored.count) parted ∙ ap (λ n. drop n (values_at es node ++ all_values es (drop (i + 1) ns))) (sym counted) ∙ drop-append_seam (values_at es node) (all_values es (drop (i + 1) ns)))
      (pairs_drop (IsValue (IsAt place places)) stored.count rest (all_values es (drop i ns)) done.left)

  pub one_done : (mine later : List StoredValue) → mine ≡ take stored.count rest → later ≡ drop stored.count rest → (next kids : List ℕ) →
      next ≡ out ++ (little_bytes 8 (get_or places stored.prefix 0) ++ stored.children ∷ padding 7 ++ little_bytes 8 (length mine) ++ drop (length ch - 16 * stored.children) ch ++ flat_map (value_text place) (values_at es node)) →
      kids ≡ take (length ch - 16 * stored.children) ch ++ (stored.byte ∷ padding 7 ++ little_bytes 8 (length out)) → AreDone place places es ns (i + 1) old next kids later
  one_done mine later m l next kids e f =
      let many : length mine ≡ length vals =
      ap length m ∙ length-take-le stored.count rest enough ∙ sym counted ∙ length-map vals value_of in
      record {
        texts = texts_step es ns r.order i no_node among place old out ch done.texts done.entries vals refl next
            (e ∙ (λ j. out ++ (little_bytes 8 (own.prefix.is j) ++ own.children j ∷ padding 7 ++ little_bytes 8 (many j) ++ drop (length ch - 16 * own.children j) ch ++ flat_map (value_text place) (values_at es node))));
        entries = entries_step es ns r.order i no_node among place old out ch done.texts done.entries kids
            (f ∙ (λ j. take (length ch - 16 * own.children j) ch ++ (own.byte j ∷ padding 7 ++ little_bytes 8 (length out))));
        left = subst (λ (l : List StoredValue). AreValues (IsAt place places) l (all_values es (drop (i + 1) ns))) (sym l) behind;
      }

pub all_done : (place : List ℕ → ℕ) (places : List ℕ) (es : List Setting) (ns : List BuiltNode) (ss : List StoredNode) (vs : List StoredValue) → AreRecords place places es ns ss vs → (i : ℕ) → length ss ≤ i → (old out ch : List ℕ) (rest : List StoredValue) →
    AreDone place places es ns i old out ch rest → out ≡ old ++ node_text place (length old) (tree_of es ns)
all_done place places es ns ss vs r i le old out ch rest done =
    let long = pairs_length (IsNode (IsAt place places)) ss ns r.nodes in
    done.texts ∙ ap (λ l. old ++ l) (texts_end es ns r.order i (omega (arith, long, le)) place (length old))

-- the offset of the root's record, by the last of the nodes
pub root_at_end : (place : List ℕ → ℕ) (places : List ℕ) (es : List Setting) (ns : List BuiltNode) (ss : List StoredNode) → IsPostOrder es ns → AreNodes (IsAt place places) ss ns → (s : StoredNode) → 0 < length ss → s ≡ get_or ss (length ss - 1) s → (from : ℕ) →
    record_at from (tree_of es ns) + (24 + 16 * s.children + 32 * s.count) ≡ from + text_size (tree_of es ns)
root_at_end place places es ns ss order p s some e from =
    let long = pairs_length (IsNode (IsAt place places)) ss ns p in
    let n = get_or ns (length ns - 1) no_node in
    let last : length ns - 1 < length ns = omega (arith, long, some) in
    let own : IsNode (IsAt place places) s n =
    subst (λ (x : StoredNode). IsNode (IsAt place places) x n) (sym e)
    (subst (λ (m : ℕ). IsNode (IsAt place places) (get_or ss (m - 1) s) n) (sym long) (pairs_at (IsNode (IsAt place places)) ss ns (length ns - 1) s no_node (omega (arith, long, some)) p)) in
    (λ j. record_at from (tree_of es ns) + (24 + 16 * own.children j + 32 * own.count j)) ∙ root_is es ns order n (get_or_default ns (length ns - 1) no_node n last) from

pub some_node : (place : List ℕ → ℕ) (places : List ℕ) (es : List Setting) (ns : List BuiltNode) (ss : List StoredNode) → IsPostOrder es ns → AreNodes (IsAt place places) ss ns → 0 < length ss
some_node place places es ns ss order p =
    let long = pairs_length (IsNode (IsAt place places)) ss ns p in
    let some = has_nodes es ns order in
    omega (arith, long, some)

-- what a database is made of, if each part has the value that it was given
pub laid_out : (es : List Setting) (ns : List BuiltNode) (s : Stored) → IsStored es ns s → IsNarrow (tree_of es ns) → (ss : List StoredNode) (vs : List StoredValue) (read : List (List ℕ)) (places : List ℕ) (size : ℕ) (section : List ℕ) →
    ss ≡ s.nodes.items → vs ≡ s.values.items → read ≡ table_of (tree_of es ns) → section ≡ section_of read → places ≡ map (place_of (80 + size) read) s.interner → size ≡ text_size (tree_of es ns) →
    80 + size + length section < 2 ^ 64 → IsLaidOut es ns ss vs places size section
laid_out es ns s st narrow ss vs read places size section n v r e p sized fits =
    let place = place_of (80 + size) (table_of (tree_of es ns)) in
    let at = placed_at place s.interner places (p ∙ ap (λ o. map (place_of (80 + size) o) s.interner) r) in
    record {
      records = record {
        order = st.order;
        narrow = narrow;
        nodes = subst (λ (l : List StoredNode). AreNodes (IsAt place places) l ns) (sym n) (nodes_by (IsUnder s.interner) (IsAt place places) at s.nodes.items ns st.nodes);
        values = subst (λ (l : List StoredValue). AreValues (IsAt place places) l (all_values es ns)) (sym v) (values_by (IsUnder s.interner) (IsAt place places) at s.values.items (all_values es ns) st.values);
      };
      is = e ∙ ap section_of r;
      sized = sized;
      fits = fits;
    }
