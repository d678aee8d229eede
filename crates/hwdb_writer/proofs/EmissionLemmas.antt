-- The steps of the functions that go over the nodes of a tree.
use Rattle.std.proofs.Common.{◌≡◌, ◌≤◌, ◌<◌, ℕ, zero, suc, ◌+◌, ◌-◌, ◌*◌, ◌^◌, List, [], ◌∷◌, ◌++◌, map, length, get_or, take, drop, refl, sym, ◌∙◌, ap, subst, arith, add-one, length-append, length-drop, append_assoc}
use Rattle.std.proofs.Math.Seq.{drop-cons, take-append_seam, drop-append_seam}
use Rattle.std.proofs.lemmas.List.{drop_all, length-map, take_all, take-append-drop, length-take-le, get_or_default}
use Rattle.std.specs.Prelude.{flat_map}
use Rattle.byteorder.specs.Endian.{little_bytes}
use Rattle.hwdb_spec.specs.Tree.{Children, Tree, Value, count}
use Rattle.hwdb_spec.specs.Tree.Tree.{Node}
use Rattle.hwdb_spec.specs.Tree.Children.{Child, NoMore}
use Rattle.hwdb_spec.specs.Written.{strings_of, strings_below, strings_of_value, text_size, texts_size, record_at, padding, value_text, entries_text, node_text, nodes_text}
use Rattle.hwdb_writer.specs.declared.entries.Setting.{Setting}
use Rattle.hwdb_writer.specs.declared.nodes.BuiltNode.{BuiltNode as NodeRecord}
use Rattle.hwdb_writer.specs.Internal.Entries.{value_of}
use Rattle.hwdb_writer.specs.Internal.PostOrder.{Sub, children_in, values_at, staying, over, joined, trees_after, AreWhole, first_tree, tree_of, IsPostOrder}
use Rattle.hwdb_writer.specs.Internal.Narrow.{IsNarrow, AreNarrow}
use Rattle.hwdb_writer.proofs.LengthLemmas.{length-nodes, length-entries}
use Rattle.hwdb_writer.proofs.MembershipLemmas.{same_refl, same_trans, same_path, same_both, same_swap}
use Rattle.hwdb_writer.specs.Internal.Membership.{SameMembers}

-- one more element of a list, from whose elements something is made piece by piece
pub made_more : {X A : Type 0} (G : List X → List A) (g : X → List A) (cons : (y : X) (ys : List X) → G (y ∷ ys) ≡ g y ++ G ys) (xs : List X) (i : ℕ) (x : X) → x ≡ get_or xs i x → i < length xs →
    (done next whole : List A) → next ≡ done ++ g x → done ++ G (drop i xs) ≡ whole → next ++ G (drop (i + 1) xs) ≡ whole
made_more G g cons xs i x is lt done next whole e h =
    let rest : drop i xs ≡ get_or xs i x ∷ drop (i + 1) xs = rw (add-one) (drop-cons xs i x lt) in
    ap (λ d. d ++ G (drop (i + 1) xs)) e ∙ append_assoc done (g x) (G (drop (i + 1) xs))
    ∙ ap (λ l. done ++ l) (ap (λ y. g y ++ G (drop (i + 1) xs)) is ∙ sym (cons (get_or xs i x) (drop (i + 1) xs)) ∙ ap G (sym rest))
    ∙ h

pub one_left : {X A : Type 0} (G : List X → List A) (g : X → List A) (cons : (y : X) (ys : List X) → G (y ∷ ys) ≡ g y ++ G ys) (xs : List X) (i : ℕ) (x : X) → x ≡ get_or xs i x → i < length xs → G (drop i xs) ≡ g x ++ G (drop (i + 1) xs)
one_left G g cons xs i x is lt =
    let rest : drop i xs ≡ get_or xs i x ∷ drop (i + 1) xs = rw (add-one) (drop-cons xs i x lt) in
    ap G rest ∙ cons (get_or xs i x) (drop (i + 1) xs) ∙ ap (λ y. g y ++ G (drop (i + 1) xs)) (sym is)

pub none_left : {X A : Type 0} (G : List X → List A) → G [] ≡ [] → (xs : List X) (i : ℕ) → length xs ≤ i → G (drop i xs) ≡ []
none_left G none xs i le = ap G (drop_all i xs le) ∙ none

pub append-[] : {A : Type 0} (ys : List A) → ys ++ [] ≡ ys
append-[] [] = refl
append-[] (y ∷ ys) = ap (λ l. y ∷ l) (append-[] ys)

-- nothing is left
pub made_all : {X A : Type 0} (G : List X → List A) → G [] ≡ [] → (xs : List X) (i : ℕ) → length xs ≤ i → (done whole : List A) → done ++ G (drop i xs) ≡ whole → done ≡ whole
made_all G none xs i le done whole h = sym (append-[] done) ∙ ap (λ l. done ++ l) (sym (ap G (drop_all i xs le) ∙ none)) ∙ h

append-assoc-four : {A : Type 0} (o a b c : List A) → (o ++ (a ++ b)) ++ c ≡ o ++ (a ++ (b ++ c))
append-assoc-four o a b c = simp append_assoc

-- what stood there, and what was added
pub kept_front : (a b c : List ℕ) (n : ℕ) → n ≡ length a → c ≡ a ++ b → take n c ≡ a
kept_front a b c n e f = (λ i. take (e i) (f i)) ∙ take-append_seam a b

pub kept_back : (a b c : List ℕ) (n : ℕ) → n ≡ length a → c ≡ a ++ b → drop n c ≡ b
kept_back a b c n e f = (λ i. drop (e i) (f i)) ∙ drop-append_seam a b

abbrev pub M : ℕ
M = 2 ^ 64 - 1

abbrev pub value_strings : List Setting → List (List ℕ)
value_strings es = flat_map strings_of_value (map value_of es)

pub value_strings-cons : (e : Setting) (es : List Setting) → value_strings (e ∷ es) ≡ strings_of_value (value_of e) ++ value_strings es
value_strings-cons e es = refl

-- trees side by side
count-trees : (ts : List Sub) → count (children_in ts) ≡ length ts
unfolding count
count-trees [] = refl
count-trees (t ∷ ts) = ap suc (count-trees ts)

sizes-append : (xs ys : List Sub) → texts_size (children_in (xs ++ ys)) ≡ texts_size (children_in xs) + texts_size (children_in ys)
unfolding text_size
sizes-append [] ys = omega arith
sizes-append (x ∷ xs) ys = let e = sizes-append xs ys in omega (arith, e)

strings-append : (xs ys : List Sub) → strings_below (children_in (xs ++ ys)) ≡ strings_below (children_in xs) ++ strings_below (children_in ys)
unfolding strings_of
strings-append [] ys = refl
strings-append (x ∷ xs) ys = ap (λ l. strings_of x.1 ++ l) (strings-append xs ys) ∙ sym (append_assoc (strings_of x.1) _ _)

module _ (place : List ℕ → ℕ) where
  texts-append : (at : ℕ) (xs ys : List Sub) → nodes_text place at (children_in (xs ++ ys)) ≡ nodes_text place at (children_in xs) ++ nodes_text place (at + texts_size (children_in xs)) (children_in ys)
  unfolding node_text text_size
  texts-append at [] ys = ap (λ n. nodes_text place n (children_in ys)) {x = at} {y = at + 0} (omega arith)
  texts-append at (x ∷ xs) ys =
      ap (λ l. node_text place at x.1 ++ l) (texts-append (at + text_size x.1) xs ys)
      ∙ sym (append_assoc (node_text place at x.1) _ _)
      ∙ ap (λ n. (node_text place at x.1 ++ nodes_text place (at + text_size x.1) (children_in xs)) ++ nodes_text place n (children_in ys)) {x = (at + text_size x.1) + texts_size (children_in xs)} {y = at + (text_size x.1 + texts_size (children_in xs))} (omega arith)

  entries-append : (at : ℕ) (xs ys : List Sub) → entries_text place at (children_in (xs ++ ys)) ≡ entries_text place at (children_in xs) ++ entries_text place (at + texts_size (children_in xs)) (children_in ys)
  unfolding entries_text text_size
  entries-append at [] ys = ap (λ n. entries_text place n (children_in ys)) {x = at} {y = at + 0} (omega arith)
  entries-append at (x ∷ xs) ys =
      let first = x.0 ∷ padding 7 ++ little_bytes 8 (record_at at x.1) in
      ap (λ l. first ++ l) (entries-append (at + text_size x.1) xs ys)
      ∙ sym (append_assoc first (entries_text place (at + text_size x.1) (children_in xs)) (entries_text place (at + text_size x.1 + texts_size (children_in xs)) (children_in ys)))
      ∙ ap (λ n. (first ++ entries_text place (at + text_size x.1) (children_in xs)) ++ entries_text place n (children_in ys)) {x = (at + text_size x.1) + texts_size (children_in xs)} {y = at + (text_size x.1 + texts_size (children_in xs))} (omega arith)

opened_text : (place : List ℕ → ℕ) (at : ℕ) (prefix : List ℕ) (values : List Value) (children : Children) → node_text place at (Node prefix values children)
    ≡ nodes_text place at children ++ (little_bytes 8 (place prefix) ++ count children ∷ padding 7 ++ little_bytes 8 (length values) ++ entries_text place at children ++ flat_map (value_text place) values)
unfolding node_text
opened_text place at prefix values children = simp append_assoc

alone_text : (place : List ℕ → ℕ) (at : ℕ) (b : ℕ) (t : Tree) → nodes_text place at (Child b t NoMore) ≡ node_text place at t
unfolding node_text
alone_text place at b t = append-[] (node_text place at t)

alone_entry : (place : List ℕ → ℕ) (at : ℕ) (b : ℕ) (t : Tree) → entries_text place at (Child b t NoMore) ≡ b ∷ padding 7 ++ little_bytes 8 (record_at at t)
unfolding entries_text
alone_entry place at b t = append-[] (b ∷ padding 7 ++ little_bytes 8 (record_at at t))

-- the trees, and the node that takes the place of the last of them
module _ (es : List Setting) (ts : List Sub) (n : NodeRecord) (le : n.children ≤ length ts) where
  abbrev keep : List Sub
  keep = take (staying ts n) ts

  abbrev kids : List Sub
  kids = drop (staying ts n) ts

  parted : ts ≡ keep ++ kids
  parted = sym (take-append-drop (staying ts n) ts)

  so_many : length kids ≡ n.children
  so_many = length-drop (staying ts n) ts ∙ omega (arith, le)

  kept : length keep ≡ length ts - n.children
  kept = length-take-le (staying ts n) ts (omega arith)

  counted : count (children_in kids) ≡ n.children
  counted = count-trees kids ∙ so_many

  sizes_parted : texts_size (children_in ts) ≡ texts_size (children_in keep) + texts_size (children_in kids)
  sizes_parted = ap (λ l. texts_size (children_in l)) parted ∙ sizes-append keep kids

  values_counted : n.first + n.count ≤ length es → length (values_at es n) ≡ n.count
  values_counted most = length-map (take n.count (drop n.first es)) value_of ∙ length-take-le n.count (drop n.first es) (let l = length-drop n.first es in omega (arith, l, most))

  -- the record of the node comes on top
  pub size_more : n.first + n.count ≤ length es → texts_size (children_in (joined es ts n)) ≡ texts_size (children_in ts) + (24 + 16 * n.children + 32 * n.count)
  unfolding text_size
  size_more most =
      let a = sizes-append keep ((n.byte, over es ts n) ∷ []) in
      let b = sizes_parted in
      let c = counted in
      let d = values_counted most in
      omega (arith, a, b, c, d)

  pub strings_more : (words old next : List (List ℕ)) → SameMembers words (old ++ strings_below (children_in ts)) → SameMembers next (words ++ (n.prefix.now ∷ flat_map strings_of_value (values_at es n))) →
      SameMembers next (old ++ strings_below (children_in (joined es ts n)))
  unfolding strings_of
  strings_more words old next a b =
      let own = n.prefix.now ∷ flat_map strings_of_value (values_at es n) in
      let k = strings_below (children_in keep) in
      let below = strings_below (children_in kids) in
      same_trans _ _ _ b
      (same_trans _ _ _ (same_both words (old ++ strings_below (children_in ts)) own own a (same_refl own))
      (same_trans _ _ _ (same_path _ _ (ap (λ l. (old ++ l) ++ own) (ap (λ l. strings_below (children_in l)) parted ∙ strings-append keep kids)))
      (same_trans _ (old ++ (k ++ (own ++ below))) _
      (same_trans _ ((old ++ k) ++ (below ++ own)) _ (same_path _ _ (simp append_assoc))
      (same_trans _ ((old ++ k) ++ (own ++ below)) _ (same_both (old ++ k) (old ++ k) _ _ (same_refl (old ++ k)) (same_swap below own)) (same_path _ _ (append_assoc old k (own ++ below)))))
      (same_path _ _ (ap (λ l. old ++ (k ++ l)) (sym (append-[] (own ++ below))) ∙ ap (λ l. old ++ l) (sym (strings-append keep ((n.byte, over es ts n) ∷ []))))))))

  module _ (place : List ℕ → ℕ) (at : ℕ) where
    abbrev base : ℕ
    base = at + texts_size (children_in keep)

    texts_parted : nodes_text place at (children_in ts) ≡ nodes_text place at (children_in keep) ++ nodes_text place base (children_in kids)
    texts_parted = ap (λ l. nodes_text place at (children_in l)) parted ∙ texts-append place at keep kids

    entries_parted : entries_text place at (children_in ts) ≡ entries_text place at (children_in keep) ++ entries_text place base (children_in kids)
    entries_parted = ap (λ l. entries_text place at (children_in l)) parted ∙ entries-append place at keep kids

    seam : (ch : List ℕ) → ch ≡ entries_text place at (children_in ts) → length ch - 16 * n.children ≡ length (entries_text place at (children_in keep))
    seam ch e =
        let a = ap length e ∙ length-entries place at (children_in ts) in
        let b = length-entries place at (children_in keep) in
        let c = count-trees ts in
        let d = count-trees keep in
        let k = kept in
        omega (arith, a, b, c, d, k, le)

    pub roomy : (ch : List ℕ) → ch ≡ entries_text place at (children_in ts) → 16 * n.children ≤ length ch
    roomy ch e =
        let a = ap length e ∙ length-entries place at (children_in ts) in
        let c = count-trees ts in
        omega (arith, a, c, le)

    own_text : nodes_text place base (children_in kids) ++ (little_bytes 8 (place n.prefix.now) ++ count (children_in kids) ∷ padding 7 ++ little_bytes 8 (length (values_at es n)) ++ entries_text place base (children_in kids) ++ flat_map (value_text place) (values_at es n))
        ≡ node_text place base (over es ts n)
    own_text = sym (opened_text place base n.prefix.now (values_at es n) (children_in kids))

    pub texts_more : (old out next ch vals : List ℕ) (m : ℕ) → at ≡ length old → out ≡ old ++ nodes_text place at (children_in ts) → ch ≡ entries_text place at (children_in ts) →
        vals ≡ flat_map (value_text place) (values_at es n) → m ≡ length (values_at es n) →
        next ≡ out ++ (little_bytes 8 (place n.prefix.now) ++ n.children ∷ padding 7 ++ little_bytes 8 m ++ drop (length ch - 16 * n.children) ch ++ vals) →
        next ≡ old ++ nodes_text place at (children_in (joined es ts n))
    texts_more old out next ch vals m is e f v c g =
        let k = nodes_text place at (children_in keep) in
        let below = nodes_text place base (children_in kids) in
        let own : ℕ → List ℕ = λ j. little_bytes 8 (place n.prefix.now) ++ j ∷ padding 7 ++ little_bytes 8 (length (values_at es n)) ++ entries_text place base (children_in kids) ++ flat_map (value_text place) (values_at es n) in
        g
        ∙ ap (λ d. out ++ (little_bytes 8 (place n.prefix.now) ++ n.children ∷ padding 7 ++ little_bytes 8 m ++ d ++ vals)) (kept_back _ _ ch _ (seam ch f) (f ∙ entries_parted))
        ∙ (λ i. e i ++ (little_bytes 8 (place n.prefix.now) ++ n.children ∷ padding 7 ++ little_bytes 8 (c i) ++ entries_text place base (children_in kids) ++ v i))
        ∙ ap (λ l. (old ++ l) ++ own n.children) texts_parted
        ∙ append-assoc-four old k below (own n.children)
        ∙ ap (λ j. old ++ (k ++ (below ++ own j))) (sym counted)
        ∙ ap (λ l. old ++ (k ++ l)) (own_text ∙ sym (alone_text place base n.byte (over es ts n)))
        ∙ ap (λ l. old ++ l) (sym (texts-append place at keep ((n.byte, over es ts n) ∷ [])))

    pub entries_more : (old out ch next : List ℕ) → at ≡ length old → out ≡ old ++ nodes_text place at (children_in ts) → ch ≡ entries_text place at (children_in ts) →
        next ≡ take (length ch - 16 * n.children) ch ++ (n.byte ∷ padding 7 ++ little_bytes 8 (length out)) →
        next ≡ entries_text place at (children_in (joined es ts n))
    unfolding record_at
    entries_more old out ch next is e f g =
        let l : length out ≡ base + texts_size (children_in kids) = ap length e ∙ length-append old _ ∙ (let a = length-nodes place at (children_in ts) in let b = sizes_parted in omega (arith, a, b, is)) in
        g
        ∙ (λ i. kept_front _ _ ch _ (seam ch f) (f ∙ entries_parted) i ++ (n.byte ∷ padding 7 ++ little_bytes 8 (l i)))
        ∙ ap (λ x. entries_text place at (children_in keep) ++ x) (sym (alone_entry place base n.byte (over es ts n)))
        ∙ sym (entries-append place at keep ((n.byte, over es ts n) ∷ []))

  -- the node whose record is the last
  pub root_record : (from : ℕ) → n.first + n.count ≤ length es → length (joined es ts n) ≡ 1 → record_at from (first_tree (joined es ts n)) + (24 + 16 * n.children + 32 * n.count) ≡ from + text_size (first_tree (joined es ts n))
  unfolding record_at text_size
  root_record from most one = alone keep (let a = length-append keep ((n.byte, over es ts n) ∷ []) in omega (arith, a, one))
    where
      alone : (ks : List Sub) → length ks ≡ 0 → record_at from (first_tree (ks ++ (n.byte, over es ts n) ∷ [])) + (24 + 16 * n.children + 32 * n.count) ≡ from + text_size (first_tree (ks ++ (n.byte, over es ts n) ∷ []))
      alone [] e = let c = counted in let d = values_counted most in omega (arith, c, d)
      alone (k ∷ ks) e = absurd (omega (arith, e))

-- the trees after so many of the nodes
abbrev pub trees_at : List Setting → List NodeRecord → ℕ → List Sub
trees_at es ns i = trees_after es [] (take i ns)

after_next : (es : List Setting) (ts : List Sub) (ns : List NodeRecord) (i : ℕ) (n : NodeRecord) → n ≡ get_or ns i n → i < length ns → trees_after es ts (take (suc i) ns) ≡ joined es (trees_after es ts (take i ns)) n
unfolding trees_after
after_next es ts [] i n is lt = absurd (omega (arith, lt))
after_next es ts (x ∷ ns) zero n is lt = ap (joined es ts) (sym is)
after_next es ts (x ∷ ns) (suc i) n is lt = after_next es (joined es ts x) ns i n is (omega (arith, lt))

pub trees_next : (es : List Setting) (ns : List NodeRecord) (i : ℕ) (n : NodeRecord) → n ≡ get_or ns i n → i < length ns → trees_at es ns (i + 1) ≡ joined es (trees_at es ns i) n
trees_next es ns i n is lt = rw (add-one) (after_next es [] ns i n is lt)

pub trees_all : (es : List Setting) (ns : List NodeRecord) (i : ℕ) → length ns ≤ i → trees_at es ns i ≡ trees_after es [] ns
trees_all es ns i le = ap (trees_after es []) (take_all i ns le)

-- what the node at a place needs
pub record Fits (es : List Setting) (ts : List Sub) (n : NodeRecord) : Type 0 where
  pub before : n.children ≤ length ts
  pub among : n.first + n.count ≤ length es

whole_after : (es : List Setting) (ts : List Sub) (ns : List NodeRecord) (i : ℕ) (n : NodeRecord) → n ≡ get_or ns i n → i < length ns → AreWhole es ts ns → Fits es (trees_after es ts (take i ns)) n
unfolding AreWhole trees_after
whole_after es ts [] i n is lt w = absurd (omega (arith, lt))
whole_after es ts (x ∷ ns) zero n is lt w = let P : NodeRecord → Type 0 = Fits es ts in subst P (sym is) (record { before = w.0; among = w.1 })
whole_after es ts (x ∷ ns) (suc i) n is lt w = whole_after es (joined es ts x) ns i n is (omega (arith, lt)) w.2

pub fits_at : (es : List Setting) (ns : List NodeRecord) → IsPostOrder es ns → (i : ℕ) (n : NodeRecord) → n ≡ get_or ns i n → i < length ns → Fits es (trees_at es ns i) n
fits_at es ns p i n is lt = whole_after es [] ns i n is lt p.whole

-- one tree at the end
module _ where
  pub one_size : (ts : List Sub) → length ts ≡ 1 → texts_size (children_in ts) ≡ text_size (first_tree ts)
  unfolding text_size
  one_size [] e = absurd (omega (arith, e))
  one_size (t ∷ []) e = omega arith
  one_size (t ∷ u ∷ ts) e = absurd (omega (arith, e))

  pub one_strings : (ts : List Sub) → length ts ≡ 1 → strings_below (children_in ts) ≡ strings_of (first_tree ts)
  unfolding strings_of
  one_strings [] e = absurd (omega (arith, e))
  one_strings (t ∷ []) e = append-[] (strings_of t.1)
  one_strings (t ∷ u ∷ ts) e = absurd (omega (arith, e))

  pub one_text : (place : List ℕ → ℕ) (at : ℕ) (ts : List Sub) → length ts ≡ 1 → nodes_text place at (children_in ts) ≡ node_text place at (first_tree ts)
  unfolding node_text
  one_text place at [] e = absurd (omega (arith, e))
  one_text place at (t ∷ []) e = append-[] (node_text place at t.1)
  one_text place at (t ∷ u ∷ ts) e = absurd (omega (arith, e))

  pub one_narrow : (ts : List Sub) → length ts ≡ 1 → IsNarrow (first_tree ts) → AreNarrow (children_in ts)
  unfolding IsNarrow
  one_narrow [] e h = absurd (omega (arith, e))
  one_narrow (t ∷ []) e h = (h, tt)
  one_narrow (t ∷ u ∷ ts) e h = absurd (omega (arith, e))

-- trees are as narrow as those that they become
narrow-append : (xs ys : List Sub) → AreNarrow (children_in xs) → AreNarrow (children_in ys) → AreNarrow (children_in (xs ++ ys))
unfolding IsNarrow
narrow-append [] ys a b = b
narrow-append (x ∷ xs) ys a b = (a.0, narrow-append xs ys a.1 b)

narrow_left : (xs ys : List Sub) → AreNarrow (children_in (xs ++ ys)) → AreNarrow (children_in xs)
unfolding IsNarrow
narrow_left [] ys h = tt
narrow_left (x ∷ xs) ys h = (h.0, narrow_left xs ys h.1)

narrow_right : (xs ys : List Sub) → AreNarrow (children_in (xs ++ ys)) → AreNarrow (children_in ys)
unfolding IsNarrow
narrow_right [] ys h = h
narrow_right (x ∷ xs) ys h = narrow_right xs ys h.1

narrow_joined : (es : List Setting) (ts : List Sub) (n : NodeRecord) → AreNarrow (children_in (joined es ts n)) → AreNarrow (children_in ts)
unfolding IsNarrow
narrow_joined es ts n h =
    let keep = take (staying ts n) ts in
    let kids = drop (staying ts n) ts in
    let new = narrow_right keep ((n.byte, over es ts n) ∷ []) h in
    let P : List Sub → Type 0 = λ l. AreNarrow (children_in l) in
    subst P (take-append-drop (staying ts n) ts) (narrow-append keep kids (narrow_left keep ((n.byte, over es ts n) ∷ []) h) new.0.1)

narrow_before : (es : List Setting) (ts : List Sub) (ns : List NodeRecord) → AreNarrow (children_in (trees_after es ts ns)) → AreNarrow (children_in ts)
unfolding trees_after
narrow_before es ts [] h = h
narrow_before es ts (n ∷ ns) h = narrow_joined es ts n (narrow_before es (joined es ts n) ns h)

few_joined : (es : List Setting) (ts : List Sub) (n : NodeRecord) → n.children ≤ length ts → AreNarrow (children_in (joined es ts n)) → n.children < 256
unfolding IsNarrow
few_joined es ts n le h =
    let keep = take (staying ts n) ts in
    let new = narrow_right keep ((n.byte, over es ts n) ∷ []) h in
    let c = counted es ts n le in
    omega (arith, new.0.0, c)

few_after : (es : List Setting) (ts : List Sub) (ns : List NodeRecord) (i : ℕ) (n : NodeRecord) → n ≡ get_or ns i n → i < length ns → AreWhole es ts ns → AreNarrow (children_in (trees_after es ts ns)) → n.children < 256
unfolding AreWhole trees_after
few_after es ts [] i n is lt w h = absurd (omega (arith, lt))
few_after es ts (x ∷ ns) zero n is lt w h =
    let P : NodeRecord → Type 0 = λ y. y.children < 256 in
    subst P (sym is) (few_joined es ts x w.0 (narrow_before es (joined es ts x) ns h))
few_after es ts (x ∷ ns) (suc i) n is lt w h = few_after es (joined es ts x) ns i n is (omega (arith, lt)) w.2 h

pub few_at : (es : List Setting) (ns : List NodeRecord) → IsPostOrder es ns → IsNarrow (tree_of es ns) → (i : ℕ) (n : NodeRecord) → n ≡ get_or ns i n → i < length ns → n.children < 256
few_at es ns p h i n is lt = few_after es [] ns i n is lt p.whole (one_narrow _ p.one h)

-- what an index reads after the last node
abbrev pub no_node : NodeRecord
no_node = record { byte = 0; prefix = record { ref_ptr = (0, 0); now = [] }; first = 0; count = 0; children = 0 }

-- the steps over the nodes
module _ (es : List Setting) (ns : List NodeRecord) (p : IsPostOrder es ns) (i : ℕ) (d : NodeRecord) (lt : i < length ns) where
  abbrev node : NodeRecord
  node = get_or ns i d

  abbrev trees : List Sub
  trees = trees_at es ns i

  is_there : node ≡ get_or ns i node
  is_there = get_or_default ns i d node lt

  pub fits_here : Fits es trees node
  fits_here = fits_at es ns p i node is_there lt

  next_trees : trees_at es ns (i + 1) ≡ joined es trees node
  next_trees = trees_next es ns i node is_there lt

  pub in_range : node.first + node.count ≤ length es
  in_range = fits_here.among

  -- what is cut out for the node
  pub cut_out : take (node.first + node.count - node.first) (drop node.first es) ≡ take node.count (drop node.first es)
  cut_out = ap (λ m. take m (drop node.first es)) {x = node.first + node.count - node.first} {y = node.count} (omega arith)

  pub few_here : IsNarrow (tree_of es ns) → node.children < 256
  few_here h = few_at es ns p h i node is_there lt

  module _ (place : List ℕ → ℕ) (old out ch : List ℕ) (texts : out ≡ old ++ nodes_text place (length old) (children_in trees)) (entries : ch ≡ entries_text place (length old) (children_in trees)) where
    pub roomy_here : 16 * node.children ≤ length ch
    roomy_here = roomy es trees node fits_here.before place (length old) ch entries

    pub texts_step : (vals : List Setting) → vals ≡ take node.count (drop node.first es) → (next : List ℕ) →
        next ≡ out ++ (little_bytes 8 (place node.prefix.now) ++ node.children ∷ padding 7 ++ little_bytes 8 (length vals) ++ drop (length ch - 16 * node.children) ch ++ flat_map (value_text place) (map value_of vals)) →
        next ≡ old ++ nodes_text place (length old) (children_in (trees_at es ns (i + 1)))
    texts_step vals e next g =
        texts_more es trees node fits_here.before place (length old) old out next ch _ _ refl texts entries (ap (λ (l : List Setting). flat_map (value_text place) (map value_of l)) e) (ap (λ (l : List Setting). length (map value_of l)) e ∙ refl)
        (g ∙ ap (λ m. out ++ (little_bytes 8 (place node.prefix.now) ++ node.children ∷ padding 7 ++ little_bytes 8 m ++ drop (length ch - 16 * node.children) ch ++ flat_map (value_text place) (map value_of vals))) (sym (length-map vals value_of)))
        ∙ ap (λ l. old ++ nodes_text place (length old) (children_in l)) (sym next_trees)

    pub entries_step : (next : List ℕ) → next ≡ take (length ch - 16 * node.children) ch ++ (node.byte ∷ padding 7 ++ little_bytes 8 (length out)) →
        next ≡ entries_text place (length old) (children_in (trees_at es ns (i + 1)))
    entries_step next g =
        entries_more es trees node fits_here.before place (length old) old out ch next refl texts entries g
        ∙ ap (λ l. entries_text place (length old) (children_in l)) (sym next_trees)

-- the end
module _ (es : List Setting) (ns : List NodeRecord) (p : IsPostOrder es ns) (i : ℕ) (le : length ns ≤ i) where
  all_trees : trees_at es ns i ≡ trees_after es [] ns
  all_trees = trees_all es ns i le

  pub texts_end : (place : List ℕ → ℕ) (at : ℕ) → nodes_text place at (children_in (trees_at es ns i)) ≡ node_text place at (tree_of es ns)
  texts_end place at = ap (λ l. nodes_text place at (children_in l)) all_trees ∙ one_text place at _ p.one

pub texts_begin : (es : List Setting) (ns : List NodeRecord) (place : List ℕ → ℕ) (old : List ℕ) → old ≡ old ++ nodes_text place (length old) (children_in (trees_at es ns 0))
unfolding trees_after node_text
texts_begin es ns place old = sym (append-[] old)

pub entries_begin : (es : List Setting) (ns : List NodeRecord) (place : List ℕ → ℕ) (at : ℕ) → [] ≡ entries_text place at (children_in (trees_at es ns 0))
unfolding trees_after entries_text
entries_begin es ns place at = refl

-- the offset of the root's record
pub root_at : (es : List Setting) (ns : List NodeRecord) (p : IsPostOrder es ns) (i : ℕ) (d : NodeRecord) → i < length ns → length ns ≤ i + 1 → (from : ℕ) →
    record_at from (tree_of es ns) + (24 + 16 * (get_or ns i d).children + 32 * (get_or ns i d).count) ≡ from + text_size (tree_of es ns)
root_at es ns p i d lt le from =
    let n = get_or ns i d in
    let ts = trees_at es ns i in
    let f = fits_here es ns p i d lt in
    let e : joined es ts n ≡ trees_after es [] ns = sym (next_trees es ns p i d lt) ∙ trees_all es ns (i + 1) le in
    let one : length (joined es ts n) ≡ 1 = ap length e ∙ p.one in
    let P : List Sub → Type 0 = λ l. record_at from (first_tree l) + (24 + 16 * n.children + 32 * n.count) ≡ from + text_size (first_tree l) in
    subst P e (root_record es ts n f.before from f.among one)

pub has_nodes : (es : List Setting) (ns : List NodeRecord) → IsPostOrder es ns → 0 < length ns
unfolding trees_after
has_nodes es [] p = absurd (omega (arith, p.one))
has_nodes es (n ∷ ns) p = omega arith

-- as `root_at`, of the last node by name
pub root_is : (es : List Setting) (ns : List NodeRecord) → IsPostOrder es ns → (n : NodeRecord) → n ≡ get_or ns (length ns - 1) n → (from : ℕ) →
    record_at from (tree_of es ns) + (24 + 16 * n.children + 32 * n.count) ≡ from + text_size (tree_of es ns)
root_is es ns p n e from =
    let some = has_nodes es ns p in
    let P : NodeRecord → Type 0 = λ m. record_at from (tree_of es ns) + (24 + 16 * m.children + 32 * m.count) ≡ from + text_size (tree_of es ns) in
    subst P (sym e) (root_at es ns p (length ns - 1) n (omega (arith, some)) (omega (arith, some)) from)
