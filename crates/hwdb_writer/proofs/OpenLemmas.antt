-- The frames that a builder's nodes are those of, when it closes, cuts and opens nodes.
use Rattle.std.proofs.Common.{Bool, true, false, ◌≡◌, ◌<◌, ◌≤◌, ℕ, suc, ◌+◌, ◌*◌, ◌^◌, ◌-◌, List, [], ◌∷◌, ◌++◌, length, length-append, map, take, drop, reverse, get_or, refl, sym, ◌∙◌, ap, subst, arith, append_assoc}
use Rattle.std.proofs.lemmas.List.{reverse-append, reverse-reverse}
use Rattle.std.proofs.Math.Seq.{take-append_seam, drop-append_seam}
use Rattle.std.proofs.lemmas.Grind.{flat_map-append}
use Rattle.hwdb_spec.specs.Tree.{Value, IsTree}
use Rattle.hwdb_spec.specs.Tree.Tree.{Node}
use Rattle.hwdb_spec.specs.Written.{IsForked, strings_below, texts_size}
use Rattle.hwdb_writer.specs.Internal.Storable.{IsStorable}
use Rattle.hwdb_writer.specs.Internal.Entries.{value_of}
use Rattle.hwdb_writer.specs.Internal.PostOrder.{Sub, children_in, values_at, staying, joined, trees_after, AreWhole}
use Rattle.hwdb_writer.specs.Internal.Spine.{Frame, node_of, stack, under, full_path, IsSpine, StandsFor, AreStanding, opens, IsOpen, one_more, Closes, Cuts, Opens}
use Rattle.hwdb_writer.specs.declared.entries.Setting.{Setting}
use Rattle.hwdb_writer.specs.declared.nodes.BuiltNode.{BuiltNode as NodeRecord}
use Rattle.hwdb_writer.specs.declared.builder.OpenBranch.{OpenBranch}
use Rattle.hwdb_writer.specs.declared.builder.Builder.{Builder}
use Rattle.hwdb_writer.specs.declared.stored.Stored.{Stored}
use Rattle.hwdb_writer.specs.Internal.Membership.{SameMembers}
use Rattle.hwdb_writer.specs.Internal.Stored.{AreKept, AreStored, AreValues, IsKept, IsUnder, all_values}
use Rattle.hwdb_writer.proofs.EmissionLemmas.{size_more, strings_more}
use Rattle.hwdb_writer.proofs.FewLemmas.{few_from, values_long}
use Rattle.hwdb_writer.proofs.StoredLemmas.{none_behind}
use Rattle.hwdb_writer.proofs.SpineLemmas.{append_none, closed_frame, close_spine, whole_frame, cut_frame, cut_spine, leaf, count-in}
use Rattle.hwdb_writer.proofs.SoundnessLemmas.{few}

-- a node that has for children the last of the trees
module _ (es : List Setting) (trees before kids : List Sub) (n : NodeRecord) (t : trees ≡ before ++ kids) (c : n.children ≡ length kids) where
  stays : staying trees n ≡ length before
  stays = let l = ap length t ∙ length-append before kids in omega (arith, l, c)

  pub enough : n.children ≤ length trees
  enough = let l = ap length t ∙ length-append before kids in omega (arith, l, c)

  pub joined_is : joined es trees n ≡ before ++ (n.byte, Node n.prefix.now (values_at es n) (children_in kids)) ∷ []
  joined_is =
      let front : take (staying trees n) trees ≡ before = (λ i. take (stays i) (t i)) ∙ take-append_seam before kids in
      let back : drop (staying trees n) trees ≡ kids = (λ i. drop (stays i) (t i)) ∙ drop-append_seam before kids in
      λ i. front i ++ (n.byte, Node n.prefix.now (values_at es n) (children_in (back i))) ∷ []

pub after_more : (es : List Setting) (trees : List Sub) (ns : List NodeRecord) (n : NodeRecord) → trees_after es trees (ns ++ n ∷ []) ≡ joined es (trees_after es trees ns) n
unfolding trees_after
after_more es trees [] n = refl
after_more es trees (m ∷ ns) n = after_more es (joined es trees m) ns n

pub whole_more : (es : List Setting) (trees : List Sub) (ns : List NodeRecord) (n : NodeRecord) → AreWhole es trees ns → n.children ≤ length (trees_after es trees ns) → n.first + n.count ≤ length es → AreWhole es trees (ns ++ n ∷ [])
unfolding trees_after AreWhole
whole_more es trees [] n w c r = (c, r, tt)
whole_more es trees (m ∷ ns) n w c r = (w.0, w.1, whole_more es (joined es trees m) ns n w.2 c r)

-- one more node is closed, whose children are there
module _ (es : List Setting) (ns : List NodeRecord) (n : NodeRecord) (old new : Stored) (a : AreKept es ns old) (k : IsKept es n old new) (whole : AreWhole es [] ns) (le : n.children ≤ length (trees_after es [] ns))
    (most : n.first + n.count ≤ length es) where
  longer : texts_size (children_in (trees_after es [] (ns ++ n ∷ []))) ≡ texts_size (children_in (trees_after es [] ns)) + (24 + 16 * n.children + 32 * n.count)
  longer = ap (λ ts. texts_size (children_in ts)) (after_more es [] ns n) ∙ size_more es (trees_after es [] ns) n le most

  full_more : (b : Bool) → old.is_full ≡ b → new.is_full ≡ true → 2 ^ 32 ≤ texts_size (children_in (trees_after es [] (ns ++ n ∷ [])))
  full_more true was is = let f = a.full was in let l = longer in omega (arith, f, l)
  full_more false was is =
      let few = (a.stored was).few in
      let many = k.full was is in
      let bytes = few_from es [] ns whole in
      let l = longer in
      omega (arith, few, many, bytes, l)

  stored_more : new.is_full ≡ false → AreStored es (ns ++ n ∷ []) new
  stored_more not =
      let more = (k.stored not).1 in
      let before = a.stored (k.stored not).0 in
      let all : all_values es (ns ++ n ∷ []) ≡ all_values es ns ++ values_at es n = flat_map-append (values_at es) ns (n ∷ []) ∙ ap (λ l. all_values es ns ++ l) (none_behind (values_at es n)) in
      let V : List Value → Type 0 = AreValues (IsUnder new.interner) new.values.items in
      let S : List Sub → Type 0 = λ ts. SameMembers new.interner (([] ∷ []) ++ strings_below (children_in ts)) in
      let long = ap length all ∙ length-append (all_values es ns) (values_at es n) in
      let own = values_long es n most in
      let count = length-append ns (n ∷ []) in
      record {
        nodes = more.nodes ns before.nodes;
        values = subst V (sym all) (more.values (all_values es ns) before.values);
        members = subst S (sym (after_more es [] ns n)) (strings_more es (trees_after es [] ns) n le old.interner ([] ∷ []) new.interner before.members more.members);
        few = omega (arith, before.few, more.few, long, own, count);
      }

  pub kept_more : AreKept es (ns ++ n ∷ []) new
  kept_more = record {
    sized = let l = longer in omega (arith, a.sized, k.sized, l);
    stored = stored_more;
    full = full_more old.is_full refl;
  }

-- the entries by another name
pub kept_among : (es own : List Setting) (n : NodeRecord) (old new : Stored) → own ≡ es → IsKept own n old new → IsKept es n old new
kept_among es own n old new e k = subst (λ (l : List Setting). IsKept l n old new) e k

-- so few bytes are of nodes that are stored
pub all_stored : (es : List Setting) (ns : List NodeRecord) (c : Stored) (b : Bool) → c.is_full ≡ b → AreKept es ns c → c.size < 2 ^ 32 → AreStored es ns c
all_stored es ns c true is a lt = let f = a.full is in absurd (omega (arith, f, a.sized, lt))
all_stored es ns c false is a lt = a.stored is

-- the last of a list whose reverse begins with an element
pub record Last {A : Type 0} (xs : List A) (x : A) (rest : List A) : Type 0 where
  pub front : List A
  pub is : xs ≡ front ++ x ∷ []
  pub back : reverse front ≡ rest

pub last_is : {A : Type 0} (xs : List A) (x : A) (rest : List A) → reverse xs ≡ x ∷ rest → Last xs x rest
last_is xs x rest e = record {
  front = reverse rest;
  is = sym (reverse-reverse xs) ∙ ap reverse e ∙ reverse-append (x ∷ []) rest;
  back = reverse-reverse rest;
}

-- the node of a frame has the frame's tree
tree_of_frame : (es : List Setting) (n : NodeRecord) (f : Frame) → n.byte ≡ f.byte → n.prefix.now ≡ f.prefix → values_at es n ≡ f.values →
    ◌≡◌ {A = Sub} (n.byte, Node n.prefix.now (values_at es n) (children_in f.done)) (f.byte, node_of f)
tree_of_frame es n f b p v = λ i. (b i, Node (p i) (v i) (children_in f.done))

-- a node is closed after others
pub record Grown (es : List Setting) (new : List NodeRecord) (made : List Sub) : Type 0 where
  pub whole : AreWhole es [] new
  pub trees : trees_after es [] new ≡ made

pub grown : (es : List Setting) (old new : List NodeRecord) (n : NodeRecord) (before : List Sub) (f : Frame) → AreWhole es [] old → trees_after es [] old ≡ before ++ f.done → new ≡ old ++ n ∷ [] →
    n.byte ≡ f.byte → n.prefix.now ≡ f.prefix → values_at es n ≡ f.values → n.children ≡ length f.done → n.first + n.count ≤ length es → Grown es new (before ++ (f.byte, node_of f) ∷ [])
grown es old new n before f w t e b p v c r = record {
  whole = subst (AreWhole es []) (sym e) (whole_more es [] old n w (enough es (trees_after es [] old) before f.done n t c) r);
  trees = ap (trees_after es []) e ∙ after_more es [] old n ∙ joined_is es (trees_after es [] old) before f.done n t c ∙ ap (λ x. before ++ x ∷ []) (tree_of_frame es n f b p v);
}

-- the lowest is closed
module _ (es : List Setting) (old new : Builder) (f g : Frame) (gs : List Frame) (is : IsOpen es old (f ∷ g ∷ gs)) (closes : Closes old new) where
  record Parent : Type 0 where
    o : OpenBranch
    os : List OpenBranch
    below : reverse old.above.items ≡ o ∷ os
    stands : StandsFor es o g
    end : o.end ≡ length (full_path (g ∷ gs))
    rest : AreStanding es os gs

  parent_of : (os : List OpenBranch) → reverse old.above.items ≡ os → AreStanding es os (g ∷ gs) → Parent
  parent_of [] e s = absurd s
  parent_of (o ∷ os) e s = record { o = o; os = os; below = e; stands = s.0; end = s.1; rest = s.2 }

  parent : Parent
  parent = parent_of (reverse old.above.items) refl is.standing.2

  pub close_open : IsForked (node_of f) → IsOpen es new (closed_frame f g gs ∷ gs)
  unfolding stack IsSpine
  close_open forked =
      let s = is.standing.0 in
      let q = parent in
      let l = last_is old.above.items q.o q.os q.below in
      let at = closes.parent l.front q.o l.is in
      let ns = is.closed in
      let k = grown es ns (ns ++ old.top.node ∷ []) old.top.node (stack (g ∷ gs)) f is.whole is.trees refl s.byte s.prefix s.values s.children s.in_range in
      let enough_trees = enough es (trees_after es [] ns) (stack (g ∷ gs)) f.done old.top.node is.trees s.children in
      let ends = length-append g.done ((f.byte, node_of f) ∷ []) in
      let opens_is : opens new ≡ one_more q.o ∷ q.os = (λ i. at.1 i ∷ reverse (at.0 i)) ∙ ap (λ r. one_more q.o ∷ r) l.back in
      record {
        entries = ap (λ r. r.now) closes.entries ∙ is.entries;
        closed = ns ++ old.top.node ∷ [];
        kept = kept_more es ns old.top.node old.closed new.closed is.kept (kept_among es old.entries.now old.top.node old.closed new.closed is.entries closes.closed) is.whole enough_trees s.in_range;
        whole = k.whole;
        trees = k.trees ∙ append_assoc (stack gs) g.done ((f.byte, node_of f) ∷ []);
        standing = subst (λ os. AreStanding es os (closed_frame f g gs ∷ gs)) (sym opens_is) (
          record { byte = q.stands.byte; prefix = q.stands.prefix; in_range = q.stands.in_range; values = q.stands.values; children = omega (arith, q.stands.children, ends) },
          q.end,
          q.rest,
        );
        spine = close_spine f g gs is.spine forked;
      }

-- the lowest is cut
module _ (es : List Setting) (old new : Builder) (at front : ℕ) (f : Frame) (fs : List Frame) (is : IsOpen es old (f ∷ fs)) (cuts : Cuts at old new) where
  pub cut_open : (left : List ℕ) (c : ℕ) (back : List ℕ) → f.prefix ≡ left ++ c ∷ back → at ≡ length (under fs f.byte) + length left → IsForked (node_of f) → 0 < length (under fs f.byte) →
      IsOpen es new (cut_frame f.byte left c back f.values f.done fs ∷ fs)
  unfolding stack IsSpine
  cut_open left c back e place forked deep =
      let s = is.standing.0 in
      let len = ap length e ∙ length-append left (c ∷ back) in
      let size = ap length s.prefix in
      let total = is.standing.1 ∙ length-append (under fs f.byte) f.prefix in
      let n : length old.top.node.prefix.now - (old.top.end - at) ≡ length left = omega (arith, size, len, total, place) in
      let cut = cuts.is_back in
      let left_is = cuts.is_front in
      let byte : cuts.back.byte ≡ c = cut.byte ∙ (λ i. get_or ((s.prefix ∙ e) i) (n i) 0) ∙ here left c back in
      let prefix : cuts.back.prefix.now ≡ back = cut.prefix ∙ (λ i. drop (n i + 1) ((s.prefix ∙ e) i)) ∙ ap (λ m. drop m (left ++ c ∷ back)) (let m : length left + 1 ≡ suc (length left) = omega arith in m) ∙ behind left c back in
      let values : values_at es cuts.back ≡ f.values = (λ i. map value_of (take (cut.count i) (drop (cut.first i) es))) ∙ s.values in
      let lower : Frame = record { byte = c; prefix = back; values = f.values; done = f.done } in
      let ns = is.closed in
      let inside : cuts.back.first + cuts.back.count ≤ length es = let a = cut.first in let b = cut.count in let r = s.in_range in omega (arith, a, b, r) in
      let k = grown es ns (ns ++ cuts.back ∷ []) cuts.back (stack fs) lower is.whole is.trees refl byte prefix values (cut.children ∙ s.children) inside in
      let w : f ≡ whole_frame f.byte left c back f.values f.done fs = λ i. record { byte = f.byte; prefix = e i; values = f.values; done = f.done } in
      let up : IsSpine (whole_frame f.byte left c back f.values f.done fs ∷ fs) = let P : Frame → Type 0 = λ h. IsSpine (h ∷ fs) in subst P w is.spine in
      let fork : IsForked (node_of (whole_frame f.byte left c back f.values f.done fs)) = let P : Frame → Type 0 = λ h. IsForked (node_of h) in subst P w forked in
      let a = left_is.first in
      let b = left_is.count in
      record {
        entries = ap (λ r. r.now) cuts.entries ∙ is.entries;
        closed = ns ++ cuts.back ∷ [];
        kept = kept_more es ns cuts.back old.closed new.closed is.kept (kept_among es old.entries.now cuts.back old.closed new.closed is.entries cuts.closed) is.whole
            (enough es (trees_after es [] ns) (stack fs) f.done cuts.back is.trees (cut.children ∙ s.children)) inside;
        whole = k.whole;
        trees = k.trees;
        standing = (
          record {
            byte = left_is.byte ∙ s.byte;
            prefix = left_is.prefix ∙ (λ i. take (n i) ((s.prefix ∙ e) i)) ∙ take-append_seam left (c ∷ back);
            in_range = omega (arith, a, b);
            values = λ i. map value_of (take (b i) (drop (a i) es));
            children = left_is.children;
          },
          cuts.end ∙ place ∙ sym (length-append (under fs f.byte) left),
          subst (λ (l : List OpenBranch). AreStanding es (reverse l) fs) (sym cuts.above) is.standing.2,
        );
        spine = cut_spine f.byte left c back f.values f.done fs up fork deep;
      }
    where
      here : (xs : List ℕ) (c : ℕ) (ys : List ℕ) → get_or (xs ++ c ∷ ys) (length xs) 0 ≡ c
      here [] c ys = refl
      here (x ∷ xs) c ys = here xs c ys

      behind : (xs : List ℕ) (c : ℕ) (ys : List ℕ) → drop (suc (length xs)) (xs ++ c ∷ ys) ≡ ys
      behind [] c ys = refl
      behind (x ∷ xs) c ys = behind xs c ys

-- a leaf is opened below the lowest
module _ (es : List Setting) (old new : Builder) (pattern : List ℕ) (number : ℕ) (g : Frame) (gs : List Frame) (is : IsOpen es old (g ∷ gs)) (opened : Opens pattern number old new) where
  pub open_open : (b : ℕ) (rest : List ℕ) → number ≤ length es → pattern ≡ full_path (g ∷ gs) ++ b ∷ rest → IsSpine (leaf b rest g gs ∷ g ∷ gs) → IsOpen es new (leaf b rest g gs ∷ g ∷ gs)
  unfolding stack under
  open_open b rest range e spine =
      let end = is.standing.1 in
      let byte : new.top.node.byte ≡ b = opened.byte ∙ (λ i. get_or (e i) (end i) 0) ∙ here (full_path (g ∷ gs)) b rest in
      let m : length (full_path (g ∷ gs)) + 1 ≡ suc (length (full_path (g ∷ gs))) = omega arith in
      let prefix : new.top.node.prefix.now ≡ rest = opened.prefix ∙ (λ i. drop (end i + 1) (e i)) ∙ ap (λ k. drop k (full_path (g ∷ gs) ++ b ∷ rest)) m ∙ behind (full_path (g ∷ gs)) b rest in
      let a = opened.first in
      let c = opened.count in
      let path : full_path (leaf b rest g gs ∷ g ∷ gs) ≡ pattern = append_assoc (full_path (g ∷ gs)) (b ∷ []) rest ∙ sym e in
      let above : reverse new.above.items ≡ old.top ∷ reverse old.above.items = ap reverse opened.above ∙ reverse-append old.above.items (old.top ∷ []) in
      record {
        entries = ap (λ r. r.now) opened.entries ∙ is.entries;
        closed = is.closed;
        kept = subst (AreKept es is.closed) (sym opened.closed) is.kept;
        whole = is.whole;
        trees = is.trees ∙ sym (append_none (stack (g ∷ gs)));
        standing = (
          record { byte = byte; prefix = prefix; in_range = omega (arith, a, c, range); values = λ i. map value_of (take (c i) (drop (a i) es)); children = opened.children },
          opened.end ∙ ap length (sym path),
          subst (λ (l : List OpenBranch). AreStanding es l (g ∷ gs)) (sym above) is.standing,
        );
        spine = spine;
      }
    where
      here : (xs : List ℕ) (c : ℕ) (ys : List ℕ) → get_or (xs ++ c ∷ ys) (length xs) 0 ≡ c
      here [] c ys = refl
      here (x ∷ xs) c ys = here xs c ys

      behind : (xs : List ℕ) (c : ℕ) (ys : List ℕ) → drop (suc (length xs)) (xs ++ c ∷ ys) ≡ ys
      behind [] c ys = refl
      behind (x ∷ xs) c ys = behind xs c ys

-- the frames of an open builder
pub record Lowest (fs : List Frame) : Type 0 where
  pub f : Frame
  pub rest : List Frame
  pub is : fs ≡ f ∷ rest

pub lowest : (es : List Setting) (b : Builder) (fs : List Frame) → IsOpen es b fs → Lowest fs
lowest es b [] is = absurd is.standing
lowest es b (f ∷ fs) is = record { f = f; rest = fs; is = refl }

-- the node above the lowest
pub record Above (es : List Setting) (g : OpenBranch) (fs : List Frame) : Type 0 where
  pub f : Frame
  pub h : Frame
  pub hs : List Frame
  pub is : fs ≡ f ∷ h ∷ hs
  pub stands : StandsFor es g h
  pub end : g.end ≡ length (full_path (h ∷ hs))

above_by : (es : List Setting) (top g : OpenBranch) (os : List OpenBranch) (fs : List Frame) → AreStanding es (top ∷ g ∷ os) fs → Above es g fs
above_by es top g os [] s = absurd s
above_by es top g os (f ∷ []) s = absurd s.2
above_by es top g os (f ∷ h ∷ hs) s = record { f = f; h = h; hs = hs; is = refl; stands = s.2.0; end = s.2.1 }

pub above_it : (es : List Setting) (b : Builder) (fs : List Frame) → IsOpen es b fs → (above : List OpenBranch) (g : OpenBranch) → b.above.items ≡ above ++ g ∷ [] → Above es g fs
above_it es b fs is above g e =
    above_by es b.top g (reverse above) fs
    (subst (λ (l : List OpenBranch). AreStanding es (b.top ∷ l) fs) (ap reverse e ∙ reverse-append above (g ∷ [])) is.standing)

pub few_children : (es : List Setting) (b : Builder) (fs : List Frame) → IsOpen es b fs → (above : List OpenBranch) (g : OpenBranch) → b.above.items ≡ above ++ g ∷ [] → g.node.children < 256
unfolding IsSpine IsStorable IsTree
few_children es b fs is above g e =
    let a = above_it es b fs is above g e in
    let s = (subst IsSpine a.is is.spine).3 in
    let n = few (length (under a.hs a.h.byte) + length a.h.prefix + 1) 0 (children_in a.h.done) (omega arith) s.1.3 s.0.1 in
    let c = a.stands.children in
    let k = count-in a.h.done in
    omega (arith, n, c, k)

-- the values of the lowest are among the entries
pub top_inside : (es : List Setting) (b : Builder) (fs : List Frame) → IsOpen es b fs → b.top.node.first + b.top.node.count ≤ length b.entries.now
top_inside es b [] is = absurd is.standing
top_inside es b (f ∷ fs) is =
    let l = ap length is.entries in
    let r = is.standing.0.in_range in
    omega (arith, l, r)

-- the end of the lowest one's path
pub lowest_end : (es : List Setting) (b : Builder) (fs : List Frame) → IsOpen es b fs → b.top.end ≡ length (full_path fs)
lowest_end es b [] is = absurd is.standing
lowest_end es b (f ∷ fs) is = is.standing.1
