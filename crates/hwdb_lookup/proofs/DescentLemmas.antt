-- The open nodes of a descent, and what its steps do to them.
use Rattle.std.proofs.Common.{◌≡◌, ◌∙◌, ap, sym, refl, subst, ℕ, zero, suc, ◌+◌, ◌-◌, ◌≤◌, List, [], ◌∷◌, ◌++◌, filter, map, take, get_or, slice_set, reverse, arith, append_assoc, append-nil, length}
use Rattle.std.proofs.lemmas.List.{reverse-append}
use Rattle.hwdb_query.specs.Views.{assignment_of_answer}
use Rattle.hwdb_spec.specs.declared.Layout.{Layout}
use Rattle.hwdb_spec.specs.Assignment.{Assignment}
use Rattle.hwdb_spec.specs.Answers.{is_wanted}
use Rattle.hwdb_spec.specs.Tree.{Tree, IsLive, prefix_of}
use Rattle.hwdb_spec.specs.Tree.Tree.{Node}
use Rattle.hwdb_spec.specs.Format.{NodeText, ChildrenText, IsDatabase, record_end, child_entry, text_at, prefix_off, layout_of, max_levels}
use Rattle.hwdb_lookup.specs.Internal.Parts.{MayBeOf, size_of}
use Rattle.hwdb_lookup.specs.declared.parts.Parts.{Parts}
use Rattle.hwdb_lookup.specs.declared.lazy_node.LazyNode.{LazyNode}
use Rattle.hwdb_reader.specs.declared.frame.Frame.{Frame}
use Rattle.hwdb_pattern.specs.Laws.{MatchesIsTested, DeadMatchesNothing}
use Rattle.hwdb_lookup.specs.declared.arrivals.OpenNode.{OpenNode}
use Rattle.hwdb_lookup.specs.declared.arrivals.Candidate.{Candidate}
use Rattle.hwdb_lookup.specs.declared.descent.Descent.{Descent}
use Rattle.hwdb_lookup.specs.Internal.Heads.{IsHead, Fits, own_members}
use Rattle.hwdb_lookup.specs.Internal.Descents.{Arrived, ToCome, Rest, Next, ComesOn, Comes, Enters, Landing, stack_of, found_in, wanted_under, wanted_below}
use Rattle.hwdb_lookup.proofs.OpeningLemmas.{strings_inside}
use Rattle.hwdb_lookup.proofs.PartsLemmas.{size_is}
use Rattle.hwdb_lookup.proofs.TreeLemmas.{under_split, node_begins, children_begin, begins_before, prefix_placed, dead_in}
use Rattle.hwdb_lookup.proofs.RestLemmas.{rest_ends}

-- there may be more bytes
more_bytes : (file device : List ℕ) (stack : List OpenNode) (w : List Assignment) (m n : ℕ) → m ≤ n → ToCome file device stack w m → ToCome file device stack w n
unfolding ToCome
more_bytes file device [] w m n le h = h
more_bytes file device (o ∷ below) w m n le h = let few = h.7 in (h.0, h.1, h.2, h.3, h.4, h.5, h.6, omega (arith, le, few))

-- ---- a node's values were collected

module _ (file : List ℕ) (o : OpenNode) (before now : Descent) (all : List Assignment) (l : Landing file o before all)
    (found : found_in now ≡ found_in before ++ filter (is_wanted o.reach.device) (own_members o.path.items l.values)) (left : now.left ≡ before.left) where
  -- and it was put on the stack
  pub lands_open : stack_of now ≡ o ∷ stack_of before → Comes file o.reach.device now all
  unfolding ToCome
  lands_open stack =
      let device = o.reach.device in
      let few = l.few in
      record {
        rest = l.own ++ l.rest;
        to_come = subst (λ s. ToCome file device s (l.own ++ l.rest) now.left) (sym stack) (l.own, l.rest, l.bytes, l.below, l.opens, l.to_come, refl, omega (arith, few, left));
        whole = ap (λ f. f ++ (l.own ++ l.rest)) found ∙ append_assoc (found_in before) (filter (is_wanted device) (own_members o.path.items l.values)) (l.own ++ l.rest) ∙ l.whole;
      }

  -- and it has no children
  pub lands_leaf : o.node.children ≡ 0 → stack_of now ≡ stack_of before → Comes file o.reach.device now all
  lands_leaf leaf stack =
      let device = o.reach.device in
      let few = l.few in
      let mine = filter (is_wanted device) (own_members o.path.items l.values) in
      let none : l.own ≡ [] = rest_ends file o o.done (l.opens).from l.own (l.opens).rest (omega (arith, leaf)) in
      record {
        rest = l.rest;
        to_come = subst (λ s. ToCome file device s l.rest now.left) (sym stack) (more_bytes file device (stack_of before) l.rest l.below now.left (omega (arith, few, left)) l.to_come);
        whole = ap (λ f. f ++ l.rest) found ∙ append_assoc (found_in before) mine l.rest ∙ ap (λ (w : List Assignment). found_in before ++ (mine ++ (w ++ l.rest))) (sym none) ∙ l.whole;
      }

-- ---- a tree is entered

above_none : (n m : ℕ) → (n ≡ 0 → ⊥) → m ≡ n - 1 → n ≡ suc m
above_none zero m some is = absurd (some refl)
above_none (suc n) m some is = omega (arith, is)

pub enters_as : (file : List ℕ) (l k : Layout) (levels size off at : ℕ) (path device same : List ℕ) (d : Descent) (all : List Assignment) → l ≡ k → levels ≡ size → off ≡ at → device ≡ same
    → Enters file l levels off path device d all → Enters file k size at path same d all
enters_as file l k levels size off at path device same d all pl pn po pd e =
    subst (λ (g : Layout × ℕ × ℕ × List ℕ). Enters file g.0 g.1 g.2 path g.3 d all) (λ i. (pl i, pn i, po i, pd i)) e

module _ (file : List ℕ) (l : Layout) (levels off : ℕ) (path device : List ℕ) (d : Descent) (all : List Assignment) (e : Enters file l levels off path device d all) where
  pub enters_fits : Fits l file off
  enters_fits = (e.ends, (prefix_placed l file levels e.begin off e.tree e.text).0)

  -- there are bytes left for its record
  pub enters_pays : record_end l file off ≤ off + d.left
  enters_pays =
      let b = begins_before l file levels e.begin off e.tree e.text in
      let size = e.size in
      let few = e.few in
      omega (arith, b, size, few)

  -- nothing of it is wanted
  pub enters_passes : (now : Descent) (size : ℕ) → stack_of now ≡ stack_of d → found_in now ≡ found_in d → now.left + size ≡ d.left → off + size ≡ record_end l file off → wanted_under device path e.tree ≡ []
      → Comes file device now all
  enters_passes now size stack found left paid none =
      let b = begins_before l file levels e.begin off e.tree e.text in
      let own = e.size in
      let few = e.few in
      record {
        rest = e.rest;
        to_come = subst (λ s. ToCome file device s e.rest now.left) (sym stack) (more_bytes file device (stack_of d) e.rest e.below now.left (omega (arith, b, own, few, left, paid)) e.to_come);
        whole = ap (λ f. f ++ e.rest) found ∙ ap (λ (w : List Assignment). found_in d ++ (w ++ e.rest)) (sym none) ∙ e.whole;
      }

-- its root's path is live
pub lands_from : (file : List ℕ) (o : OpenNode) (path : List ℕ) (d now : Descent) (all : List Assignment) (size : ℕ) → Enters file o.node.frame.sizes (suc o.levels) o.node.off path o.reach.device d all
    → IsHead file o.node → MayBeOf o.node.known file → o.done ≡ 0 → o.path.items ≡ path ++ text_at file o.node.prefix → stack_of now ≡ stack_of d → found_in now ≡ found_in d
    → now.left + size ≡ d.left → o.node.off + size ≡ o.node.end → Landing file o now all
unfolding NodeText
lands_from file o path d now all size e head known done come stack found left paid = go e.tree e.text e.whole
  where
    go : (t : Tree) → NodeText o.node.frame.sizes file (suc o.levels) e.begin o.node.off t → found_in d ++ (wanted_under o.reach.device path t ++ e.rest) ≡ all → Landing file o now all
    go (Node prefix values children) text whole =
        let l = o.node.frame.sizes in
        let device = o.reach.device in
        let begins = children_begin l file o.levels e.begin (child_entry l o.node.off 0) 0 o.node.off children text.5 in
        let own = e.size in
        let few = e.few in
        let ends = head.end in
        let count = text.4 in
        let many = head.children in
        let path_is : o.path.items ≡ path ++ prefix = come ∙ ap (λ i. path ++ text_at file i) head.prefix ∙ ap (λ p. path ++ p) (sym text.1) in
        let mine = filter (is_wanted device) (own_members o.path.items values) in
        let theirs = wanted_below device o.path.items children in
        let split : wanted_under device path (Node prefix values children) ≡ mine ++ theirs =
        under_split device path prefix values children ∙ ap (λ p. filter (is_wanted device) (own_members p values) ++ wanted_below device p children) (sym path_is) in
        record {
          values = values;
          are = record { head = head; text = text.3; count = text.2 ∙ sym head.values };
          own = theirs;
          bytes = o.node.off - e.begin;
          opens = record {
            known = known;
            same_device = refl;
            from = e.begin;
            rest = record {
              ks = children;
              begin = e.begin;
              byte = 0;
              head = head;
              after = omega arith;
              text = subst (λ i. ChildrenText l file o.levels e.begin (child_entry l o.node.off i) 0 o.node.off children) (sym done) text.5;
              count = omega (arith, count, many, done);
              is = refl;
            };
            size = omega (arith, begins);
          };
          rest = e.rest;
          below = e.below;
          few = omega (arith, begins, own, few, ends, left, paid);
          to_come = subst (λ s. ToCome file device s e.rest e.below) (sym stack) e.to_come;
          whole = ap (λ f. f ++ (mine ++ (theirs ++ e.rest))) found ∙ ap (λ w. found_in d ++ w) (sym (append_assoc mine theirs e.rest))
              ∙ ap (λ w. found_in d ++ (w ++ e.rest)) (sym split) ∙ whole;
        }

-- the node's record ends where the file says
pub node_end : (file : List ℕ) (known : Parts) (f : Frame) (off : ℕ) (n : LazyNode) → (n.known ≡ known) × (n.frame ≡ f) × (n.off ≡ off) → IsHead file n → n.end ≡ record_end f.sizes file off
node_end file known f off n same head = head.end ∙ ap (λ (g : Frame). record_end g.sizes file n.off) same.1 ∙ ap (record_end f.sizes file) same.2

-- a node was entered, and its path isn't live
pub visit_passes : (file : List ℕ) (known : Parts) (f : Frame) (levels off : ℕ) (path device : List ℕ) (d now : Descent) (all : List Assignment) (n : LazyNode)
    → (n.known ≡ known) × (n.frame ≡ f) × (n.off ≡ off) → IsHead file n → MatchesIsTested → DeadMatchesNothing → (IsLive (path ++ text_at file n.prefix) device → ⊥)
    → stack_of now ≡ stack_of d → found_in now ≡ found_in d → now.left + (n.end - off) ≡ d.left → Enters file f.sizes levels off path device d all → Comes file device now all
visit_passes file known f levels off path device d now all n same head matched below dead stack found left e =
    let end = node_end file known f off n same head in
    let long = n.long in
    let at = same.2 in
    let prefix : text_at file n.prefix ≡ prefix_of e.tree = ap (text_at file) (head.prefix ∙ ap (prefix_off file) at) ∙ sym (prefix_placed f.sizes file levels e.begin off e.tree e.text).1 in
    enters_passes file f.sizes levels off path device d all e now (n.end - off) stack found left (omega (arith, long, at, end))
    (dead_in device path e.tree matched below (subst (λ p. IsLive (path ++ p) device → ⊥) prefix dead))

-- a node was entered, and its path is live
pub visit_lands : (file : List ℕ) (known : Parts) (f : Frame) (levels off : ℕ) (path device : List ℕ) (d now : Descent) (all : List Assignment) (n : LazyNode) (o : OpenNode)
    → (n.known ≡ known) × (n.frame ≡ f) × (n.off ≡ off) → IsHead file n → MayBeOf known file → (levels ≡ 0 → ⊥) → Arrived n (levels - 1) device o → o.path.items ≡ path ++ text_at file n.prefix
    → stack_of now ≡ stack_of d → found_in now ≡ found_in d → now.left + (n.end - off) ≡ d.left → Enters file f.sizes levels off path device d all → Landing file o now all
visit_lands file known f levels off path device d now all n o same head m some a come stack found left e =
    let at = same.2 in
    let long = n.long in
    let there : o.node.off ≡ n.off = ap (λ (x : LazyNode). x.off) a.node in
    let ends : o.node.end ≡ n.end = ap (λ (x : LazyNode). x.end) a.node in
    let deep = a.levels_are in
    lands_from file o path d now all (n.end - off)
    (enters_as file f.sizes o.node.frame.sizes levels (suc o.levels) off o.node.off path device o.reach.device d all
    (sym (ap (λ (x : LazyNode). x.frame.sizes) a.node ∙ ap (λ (g : Frame). g.sizes) same.1)) (above_none levels o.levels some deep) (sym (there ∙ at)) (sym a.same_device) e)
    (subst (IsHead file) (sym a.node) head) (subst (λ k. MayBeOf k file) (sym (ap (λ (x : LazyNode). x.known) a.node ∙ same.0)) m) a.none_done
    (come ∙ ap (λ (x : LazyNode). path ++ text_at file x.prefix) (sym a.node)) stack found left (omega (arith, at, long, there, ends))

-- ---- the node on top goes on

module _ (file : List ℕ) (o : OpenNode) (stack : List OpenNode) (found : List Assignment) (left : ℕ) (all : List Assignment) (c : ComesOn file o.reach.device (o ∷ stack) found left all) where
  -- none of its children may be live
  pub goes_ends : ((from : ℕ) (w : List Assignment) → Rest file o o.done from w → w ≡ []) → ComesOn file o.reach.device stack found left all
  unfolding ToCome
  goes_ends ends =
      let t = c.to_come in
      let few = t.7 in
      record {
        rest = t.1;
        to_come = more_bytes file o.reach.device stack t.1 t.3 left (omega (arith, few)) t.5;
        whole = ap (λ r. found ++ r) (sym (t.6 ∙ ap (λ w. w ++ t.1) (ends (t.4).from t.0 (t.4).rest))) ∙ c.whole;
      }

  -- it is below its next child
  pub goes_down : (d : Descent) (k : Candidate) → stack_of d ≡ record o { done = k.done } ∷ stack → found_in d ≡ found → d.left ≡ left
      → ((from : ℕ) (w : List Assignment) → Rest file o o.done from w → Next file o from w k)
      → Enters file o.node.frame.sizes o.levels k.off (o.path.items ++ k.byte ∷ []) o.reach.device d all
  unfolding ToCome
  goes_down d k on same kept next =
      let t = c.to_come in
      let opens = t.4 in
      let l = o.node.frame.sizes in
      let n = next opens.from t.0 opens.rest in
      let r = n.rest in
      let re = record_end l file k.off in
      let begins = node_begins l file o.levels n.begin k.off n.tree n.text in
      let ends = children_begin l file o.levels r.begin (child_entry l o.node.off k.done) r.byte o.node.off r.ks r.text in
      let after = r.after in
      let first = n.after in
      let long = o.node.long in
      let below = o.node.below in
      let few = t.7 in
      let size = opens.size in
      let mine = wanted_under o.reach.device (o.path.items ++ k.byte ∷ []) n.tree in
      record {
        tree = n.tree;
        begin = n.begin;
        text = n.text;
        ends = omega (arith, after, ends, long, below);
        rest = n.more ++ t.1;
        own = re - n.begin;
        below = (o.node.off - re) + t.3;
        size = omega (arith, begins);
        few = omega (arith, begins, ends, after, first, few, size, kept);
        to_come = subst (λ s. ToCome file o.reach.device s (n.more ++ t.1) ((o.node.off - re) + t.3)) (sym on) (
          n.more,
          t.1,
          o.node.off - re,
          t.3,
          record {
            known = opens.known;
            same_device = opens.same_device;
            from = re;
            rest = record { ks = r.ks; begin = r.begin; byte = r.byte; head = r.head; after = r.after; text = r.text; count = r.count; is = r.is };
            size = omega (arith, ends, after);
          },
          t.5,
          refl,
          omega arith,
        );
        whole = ap (λ f. f ++ (mine ++ (n.more ++ t.1))) same ∙ ap (λ w. found ++ w) (sym (append_assoc mine n.more t.1) ∙ ap (λ w. w ++ t.1) (sym n.is) ∙ sym t.6) ∙ c.whole;
      }

-- ---- the beginning and the end

pub root_enters : (file : List ℕ) (l : Layout) (t : Tree) (device : List ℕ) (d : Descent) → l ≡ layout_of file → IsDatabase file t → stack_of d ≡ [] → found_in d ≡ [] → d.left ≡ length file
    → Enters file l max_levels l.root [] device d (wanted_under device [] t)
unfolding ToCome
root_enters file l t device d is h stack found left =
    subst (λ k. Enters file k max_levels k.root [] device d (wanted_under device [] t)) (sym is) (
    let begins = node_begins (layout_of file) file max_levels (layout_of file).nodes (layout_of file).root t h.text in
    let whole = h.whole in
    let inside = strings_inside file h.header in
    record {
      tree = t;
      begin = (layout_of file).nodes;
      text = h.text;
      ends = omega (arith, whole);
      rest = [];
      own = (layout_of file).strings - (layout_of file).nodes;
      below = 0;
      size = omega (arith, begins, whole);
      few = omega (arith, inside, left);
      to_come = subst (λ s. ToCome file device s [] 0) (sym stack) refl;
      whole = ap (λ f. f ++ (wanted_under device [] t ++ [])) found ∙ append-nil (wanted_under device [] t);
    }
    )

pub all_found : (file device : List ℕ) (d : Descent) (all : List Assignment) → stack_of d ≡ [] → Comes file device d all → found_in d ≡ all
unfolding ToCome
all_found file device d all none c =
    let end : c.rest ≡ [] = subst (λ s. ToCome file device s c.rest d.left) none c.to_come in
    sym (append-nil (found_in d)) ∙ ap (λ r. found_in d ++ r) (sym end) ∙ c.whole

-- what is left of a number, and what was taken of it
pub kept_left : (left size : ℕ) → size ≤ left → (left - size) + size ≡ left
kept_left left size enough = omega (arith, enough)

-- the same at an equal path and device
pub enters_at_path : (file : List ℕ) (l : Layout) (levels off : ℕ) (path whole device same : List ℕ) (d : Descent) (all : List Assignment) → path ≡ whole → device ≡ same
    → Enters file l levels off path device d all → Enters file l levels off whole same d all
enters_at_path file l levels off path whole device same d all p e h = subst (λ (g : List ℕ × List ℕ). Enters file l levels off g.0 g.1 d all) (λ i. (p i, e i)) h

-- ---- the stack as a list

last_is : (items : List OpenNode) (i : ℕ) (o : OpenNode) → suc i ≡ length items → items ≡ take i items ++ get_or items i o ∷ []
last_is [] i o h = absurd (omega (arith, h))
last_is (x ∷ []) zero o h = refl
last_is (x ∷ y ∷ items) zero o h = absurd (omega (arith, h))
last_is (x ∷ items) (suc i) o h = ap (λ l. x ∷ l) (last_is items i o (omega (arith, h)))

last_set : (items : List OpenNode) (i : ℕ) (o : OpenNode) → suc i ≡ length items → slice_set items i o ≡ take i items ++ o ∷ []
last_set [] i o h = absurd (omega (arith, h))
last_set (x ∷ []) zero o h = refl
last_set (x ∷ z ∷ items) zero o h = absurd (omega (arith, h))
last_set (x ∷ items) (suc i) o h = ap (λ l. x ∷ l) (last_set items i o (omega (arith, h)))

before_last : (items : List OpenNode) (i : ℕ) (o : OpenNode) → suc i ≡ length items → take i (slice_set items i o) ≡ take i items
before_last [] i o h = absurd (omega (arith, h))
before_last (x ∷ items) zero o h = refl
before_last (x ∷ items) (suc i) o h = ap (λ l. x ∷ l) (before_last items i o (omega (arith, h)))

-- the node on top, and those below it
pub on_top : (items : List OpenNode) (i : ℕ) (o : OpenNode) → suc i ≡ length items → o ≡ get_or items i o → reverse items ≡ o ∷ reverse (take i items)
on_top items i o h is = ap reverse (last_is items i o h ∙ ap (λ x. take i items ++ x ∷ []) (sym is)) ∙ reverse-append (take i items) (o ∷ [])

-- another one in its place
pub changed : (items : List OpenNode) (i : ℕ) (o : OpenNode) → suc i ≡ length items → reverse (slice_set items i o) ≡ o ∷ reverse (take i items)
changed items i o h = ap reverse (last_set items i o h) ∙ reverse-append (take i items) (o ∷ [])

-- it was taken off
pub taken_off : (items rest : List OpenNode) (i n : ℕ) (o : OpenNode) → suc i ≡ length items → n ≡ length items → rest ≡ take (n - 1) (slice_set items i o) → reverse rest ≡ reverse (take i items)
taken_off items rest i n o h e is =
    let size : n - 1 ≡ i = omega (arith, h, e) in
    ap reverse (is ∙ ap (λ m. take m (slice_set items i o)) size ∙ before_last items i o h)

-- what comes, by the node on top
pub goes_from : (file device : List ℕ) (o : OpenNode) (stack below : List OpenNode) (found : List Assignment) (left : ℕ) (all : List Assignment) → stack ≡ o ∷ below
    → ComesOn file device stack found left all → MayBeOf o.node.known file × (o.reach.device ≡ device) × ComesOn file o.reach.device (o ∷ below) found left all
unfolding ToCome
goes_from file device o stack below found left all top c =
    let t = subst (λ s. ToCome file device s c.rest left) top c.to_come in
    let opens = t.4 in
    let same = opens.same_device in
    (opens.known, same, subst (λ x. ComesOn file x (o ∷ below) found left all) (sym same) (record { rest = c.rest; to_come = t; whole = c.whole }))

-- the same of another device and stack
pub comes_at : (file device same : List ℕ) (stack now : List OpenNode) (found : List Assignment) (left : ℕ) (all : List Assignment) → device ≡ same → stack ≡ now
    → ComesOn file device stack found left all → ComesOn file same now found left all
comes_at file device same stack now found left all d s c = subst (λ (g : List ℕ × List OpenNode). ComesOn file g.0 g.1 found left all) (λ i. (d i, s i)) c

pub begins : (file : List ℕ) (known : Parts) (l : Layout) (t : Tree) (device start path : List ℕ) (d : Descent) → MayBeOf known file → l ≡ layout_of file → IsDatabase file t → d.stack.items ≡ [] → d.found.items ≡ []
    → d.left ≡ size_of known → path ≡ [] → start ≡ device → Enters file l max_levels l.root path start d (wanted_under device [] t)
begins file known l t device start path d m is h stack found left none same =
    enters_at_path file l max_levels l.root [] path device start d (wanted_under device [] t) (sym none) (sym same)
    (root_enters file l t device d is h (ap reverse stack) (ap (map assignment_of_answer) found) (left ∙ sym (size_is known file m)))

no_items : (items : List OpenNode) → length items ≡ 0 → reverse items ≡ []
no_items [] h = refl
no_items (o ∷ items) h = absurd (omega (arith, h))

pub none_open : (d : Descent) → d.stack.len ≡ 0 → stack_of d ≡ []
none_open d h = let size = d.stack.ok in no_items d.stack.items (omega (arith, h, size))
