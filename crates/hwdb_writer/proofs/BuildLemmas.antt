-- One more entry is added to the nodes.
use Rattle.std.proofs.Common.{◌≡◌, ◌<◌, ◌≤◌, ℕ, zero, suc, ◌+◌, List, [], ◌∷◌, ◌++◌, length, length-append, map, take, drop, reverse, get_or, refl, sym, ◌∙◌, ap, subst, arith, append_assoc, Option, None, Some, Ordering}
use Rattle.std.proofs.lemmas.List.{reverse-append, reverse-reverse, take_all, get_or_default}
use Rattle.std.proofs.Math.Seq.{take-add, take-append_seam}
use Rattle.std.specs.List.{AllByRecursion}
use Rattle.std.specs.List.Sorted.{IsStrictlySortedBy}
use Rattle.std.specs.declared.cmp.Ordering.TheVariants.{Less, Equal, Greater}
use Rattle.std.specs.Ordering.{nat_cmp, ordering_then}
use Rattle.std.specs.Cmp.Lexicographic.{slice_cmp, nat_list_cmp_total}
use Rattle.std.proofs.lemmas.Cmp.{ranked, tied_itself, nat_cmp_total}
use Rattle.hwdb_spec.specs.Tree.{Value, IsTree, values_under, prefix_of}
use Rattle.hwdb_spec.specs.Written.{IsForked}
use Rattle.hwdb_writer.specs.Internal.Storable.{IsText, IsStorable, IsSound}
use Rattle.hwdb_writer.specs.Internal.Entries.{value_of, placed, by_place, IsStorableEntry}
use Rattle.hwdb_writer.specs.Internal.PostOrder.{values_at, trees_after, AreWhole, tree_of, first_tree}
use Rattle.hwdb_writer.specs.Internal.Spine.{Frame, node_of, stack, under, full_path, spine_values, AllBelow, IsFilled, IsForkedTop, IsSpine, AreStanding, opens, IsOpen, lowest_done, IsClosedTo, IsBuilt, IsNext, IsFinished, MeetAt, Opens, Counts}
use Rattle.hwdb_writer.specs.declared.entries.Setting.{Setting}
use Rattle.hwdb_writer.specs.declared.nodes.BuiltNode.{BuiltNode as NodeRecord}
use Rattle.hwdb_writer.specs.declared.builder.OpenBranch.{OpenBranch}
use Rattle.hwdb_writer.specs.declared.builder.Builder.{Builder}
use Rattle.hwdb_writer.specs.declared.stored.Stored.{Stored}
use Rattle.hwdb_writer.specs.Internal.Stored.{AreKept, IsKept}
use Rattle.hwdb_writer.proofs.SpineLemmas.{append_none, leaf, open_values, open_spine, with_value, Ends, before_it, value_spine, value_values, length-under}
use Rattle.hwdb_writer.proofs.OpenLemmas.{enough, grown, kept_among, kept_more, open_open, lowest, lowest_end, above_it}

abbrev pub root : Frame
root = record { byte = 0; prefix = []; values = []; done = [] }

no_entries : (es : List Setting) (n : NodeRecord) → n.first ≡ 0 → n.count ≡ 0 → values_at es n ≡ []
no_entries es n f c = λ i. map value_of (take (c i) (drop (f i) es))

-- a new builder
pub built_none : (es : List Setting) (b : Builder) → b.entries.now ≡ es → AreKept es [] b.closed → b.path.now ≡ [] → b.top.node.byte ≡ 0 → b.top.node.prefix.now ≡ [] → b.top.node.first ≡ 0 → b.top.node.count ≡ 0 → b.top.node.children ≡ 0 → b.top.end ≡ 0
    → b.above.items ≡ [] → IsBuilt es 0 b (root ∷ [])
unfolding AreWhole trees_after stack IsSpine IsTree IsStorable spine_values values_under under
built_none es b entries kept path byte prefix first number children end above = record {
  nodes = record {
    entries = entries;
    closed = [];
    kept = kept;
    whole = tt;
    trees = refl;
    standing = (
      record { byte = byte; prefix = prefix; in_range = omega (arith, first, number); values = no_entries es b.top.node first number; children = children },
      end,
      subst (λ (l : List OpenBranch). AreStanding es (reverse l) []) (sym above) tt,
    );
    spine = ((tt, tt), (tt, omega arith, tt, tt), refl, tt);
  };
  forked = tt;
  path = path;
  values = refl;
  last = λ before d e. absurd (none before d e);
  none = λ e. refl;
  fresh = refl;
  counted = omega (arith, first, number);
}
  where
    none : (before : List Setting) (d : Setting) → [] ≡ before ++ d ∷ [] → ⊥
    none before d e = let l = ap length e ∙ length-append before (d ∷ []) in omega (arith, l)

-- lists that end in an element
pub same_end : {A : Type 0} (xs ys : List A) (x y : A) → xs ++ x ∷ [] ≡ ys ++ y ∷ [] → x ≡ y
same_end xs ys x y e = ap (head x) (sym (reverse-append xs (x ∷ [])) ∙ ap reverse e ∙ reverse-append ys (y ∷ []))
  where
    head : {A : Type 0} → A → List A → A
    head d [] = d
    head d (z ∷ zs) = z

no_end : {A : Type 0} (xs : List A) (x : A) → xs ++ x ∷ [] ≡ [] → ⊥
no_end xs x e = let l = sym (length-append xs (x ∷ [])) ∙ ap length e in omega (arith, l)

-- a list is empty, or ends in an element
pub data Snoc {A : Type 0} (xs : List A) : Type 0 where
  Empty : xs ≡ [] → Snoc xs
  Ended : (front : List A) (x : A) → xs ≡ front ++ x ∷ [] → Snoc xs

pub snoc : {A : Type 0} (xs : List A) → Snoc xs
snoc xs = by xs (reverse xs) (sym (reverse-reverse xs))
  where
    by : {A : Type 0} (xs rs : List A) → xs ≡ reverse rs → Snoc xs
    by xs [] e = Empty e
    by xs (r ∷ rs) e = Ended (reverse rs) r (e ∙ reverse-append (r ∷ []) rs)

tail : {A : Type 0} → List A → List A
tail [] = []
tail (x ∷ xs) = xs

same_rest : {A : Type 0} (front xs ys : List A) → front ++ xs ≡ front ++ ys → xs ≡ ys
unfolding tail
same_rest [] xs ys e = e
same_rest (x ∷ front) xs ys e = same_rest front xs ys (ap tail e)

mapped_end : (xs : List Setting) (x : Setting) → map value_of (xs ++ x ∷ []) ≡ map value_of xs ++ value_of x ∷ []
mapped_end [] x = refl
mapped_end (y ∷ xs) x = ap (λ l. value_of y ∷ l) (mapped_end xs x)

placed_end : (xs : List Setting) (x : Setting) → map placed (xs ++ x ∷ []) ≡ map placed xs ++ placed x ∷ []
placed_end [] x = refl
placed_end (y ∷ xs) x = ap (λ l. placed y ∷ l) (placed_end xs x)

-- a node with one more value
values_one : (es : List Setting) (n : ℕ) (e : Setting) (a b : NodeRecord) → b.first ≡ a.first → b.count ≡ a.count + 1 → a.first + a.count ≡ n → take (n + 1) es ≡ take n es ++ e ∷ [] → values_at es b ≡ values_at es a ++ value_of e ∷ []
values_one es n e a b f c k t =
    let own = take a.count (drop a.first es) in
    let m : a.first + (a.count + 1) ≡ n + 1 = omega (arith, k) in
    let whole : take a.first es ++ take (a.count + 1) (drop a.first es) ≡ take a.first es ++ (own ++ e ∷ []) =
    sym (take-add a.first (a.count + 1) es) ∙ ap (λ i. take i es) m ∙ t ∙ ap (λ i. take i es ++ e ∷ []) (sym k) ∙ ap (λ l. l ++ e ∷ []) (take-add a.first a.count es) ∙ append_assoc (take a.first es) own (e ∷ []) in
    (λ i. map value_of (take (c i) (drop (f i) es))) ∙ ap (map value_of) (same_rest (take a.first es) (take (a.count + 1) (drop a.first es)) (own ++ e ∷ []) whole) ∙ mapped_end own e

parts : (xs : List ℕ) (n : ℕ) → n < length xs → xs ≡ take n xs ++ get_or xs n 0 ∷ drop (suc n) xs
parts [] n less = absurd (omega (arith, less))
parts (x ∷ xs) zero less = refl
parts (x ∷ xs) (suc n) less = ap (λ l. x ∷ l) (parts xs n (omega (arith, less)))

-- if two lists part, the less has the less byte
fork_less : (front : List ℕ) (c b : ℕ) (r s : List ℕ) (o : Ordering) → (c ≡ b → ⊥) → ordering_then (slice_cmp nat_cmp (front ++ c ∷ r) (front ++ b ∷ s)) o ≡ Less → c < b
fork_less [] c b r s o apart e = by (nat_cmp c b) refl e
  where
    by : (q : Ordering) → nat_cmp c b ≡ q → ordering_then (ordering_then q (slice_cmp nat_cmp r s)) o ≡ Less → c < b
    by Less h g = ranked c b Less (sym h)
    by Equal h g = absurd (apart (ranked c b Equal (sym h)))
    by Greater h g = absurd (cc)
fork_less (x ∷ front) c b r s o apart e =
    fork_less front c b r s o apart
    (ap (λ q. ordering_then (ordering_then q (slice_cmp nat_cmp (front ++ c ∷ r) (front ++ b ∷ s))) o) (sym (tied_itself nat_cmp_total x)) ∙ e)

-- a list isn't below what it begins with
not_longer : (front : List ℕ) (c : ℕ) (r : List ℕ) (o : Ordering) → ordering_then (slice_cmp nat_cmp (front ++ c ∷ r) front) o ≡ Less → ⊥
not_longer [] c r o e = cc
not_longer (x ∷ front) c r o e =
    not_longer front c r o (ap (λ q. ordering_then (ordering_then q (slice_cmp nat_cmp (front ++ c ∷ r) front)) o) (sym (tied_itself nat_cmp_total x)) ∙ e)

ends_last : (before : Option (List ℕ)) (vs : List Value) (v : Value) (key : List ℕ) → slice_cmp nat_cmp v.key key ≡ Less → Ends before (vs ++ v ∷ []) key
ends_last before [] v key e = e
ends_last before (w ∷ vs) v key e = ends_last (Some w.key) vs v key e

text_parts : (xs : List ℕ) (c : ℕ) (ys : List ℕ) → IsText (xs ++ c ∷ ys) → IsText (c ∷ ys)
text_parts [] c ys t = t
text_parts (x ∷ xs) c ys t = text_parts xs c ys t.2

module _ (es : List Setting) (n : ℕ) (e : Setting) (next : IsNext es n e) where
  extend : (old new : Builder) (f : Frame) (fs : List Frame) → IsOpen es old (f ∷ fs) → f.done ≡ [] → old.top.node.first + old.top.node.count ≡ n → full_path (f ∷ fs) ≡ e.pattern.now → Ends None f.values (value_of e).key
      → spine_values (f ∷ fs) ≡ map placed (take n es) → old.path.now ≡ e.pattern.now → Counts old new → (gs : List Frame) × IsBuilt es (n + 1) new gs
  unfolding stack IsForked
  extend old new f fs is none counted path ends values at counts =
      let v = value_of e in
      let w : f ≡ before_it f.byte f.prefix f.values fs v = λ i. record { byte = f.byte; prefix = f.prefix; values = f.values; done = none i } in
      let s = is.standing.0 in
      let g = with_value (before_it f.byte f.prefix f.values fs v) v in
      let spine : IsSpine (before_it f.byte f.prefix f.values fs v ∷ fs) = let P : Frame → Type 0 = λ h. IsSpine (h ∷ fs) in subst P w is.spine in
      let a = counts.first in
      let b = counts.count in
      let range = next.in_range in
      let full : full_path (g ∷ fs) ≡ e.pattern.now = path in (
        g ∷ fs,
        record {
          nodes = record {
            entries = ap (λ r. r.now) counts.entries ∙ is.entries;
            closed = is.closed;
            kept = subst (AreKept es is.closed) (sym counts.closed) is.kept;
            whole = is.whole;
            trees = is.trees ∙ ap (λ d. stack fs ++ d) none;
            standing = (
              record {
                byte = counts.byte ∙ s.byte;
                prefix = ap (λ p. p.now) counts.prefix ∙ s.prefix;
                in_range = omega (arith, a, b, counted, range);
                values = values_one es n e old.top.node new.top.node a b counted next.taken ∙ ap (λ l. l ++ v ∷ []) s.values;
                children = counts.children ∙ s.children ∙ ap length none;
              },
              counts.end ∙ is.standing.1,
              subst (λ (l : List OpenBranch). AreStanding es (reverse l) fs) (sym counts.above) is.standing.2,
            );
            spine = value_spine f.byte f.prefix f.values fs v spine next.storable.value ends;
          };
          forked = some fs;
          path = ap (λ p. p.now) counts.path ∙ at ∙ sym path;
          values = value_values f.byte f.prefix f.values fs v ∙ ap (λ (h : Frame). spine_values (h ∷ fs) ++ (full_path (h ∷ fs), v) ∷ []) (sym w)
              ∙ (λ i. values i ++ (path i, v) ∷ []) ∙ sym (placed_end (take n es) e) ∙ ap (map placed) (sym next.taken);
          last = λ before d t. path ∙ ap (λ (x : Setting). x.pattern.now) (same_end (take n es) before e d (sym next.taken ∙ t));
          none = λ t. absurd (no_end (take n es) e (sym next.taken ∙ t));
          fresh = refl;
          counted = omega (arith, a, b, counted);
        },
      )
    where
      some : (fs : List Frame) → IsForkedTop (with_value (before_it f.byte f.prefix f.values fs (value_of e)) (value_of e) ∷ fs)
      some [] = tt
      some (h ∷ hs) = let l = length-append f.values (value_of e ∷ []) in omega (arith, l)

  -- the entry has the pattern that was added last
  module _ (old new : Builder) (fs : List Frame) (built : IsBuilt es n old fs) (counts : Counts old new) where
    more_ends : (f : Frame) (rest : List Frame) → fs ≡ f ∷ rest → full_path fs ≡ e.pattern.now → Ends None f.values (value_of e).key
    more_ends f rest is path = by (snoc own)
      where
        own : List Setting
        own = take old.top.node.count (drop old.top.node.first es)

        taken : take n es ≡ take old.top.node.first es ++ own
        taken = ap (λ i. take i es) (sym built.counted) ∙ take-add old.top.node.first old.top.node.count es

        values : map value_of own ≡ f.values
        values = (subst (AreStanding es (opens old)) is built.nodes.standing).0.values

        key_of_last : (front : List Setting) (d : Setting) → own ≡ front ++ d ∷ [] → slice_cmp nat_cmp (value_of d).key (value_of e).key ≡ Less
        key_of_last front d q =
            let t : take n es ≡ (take old.top.node.first es ++ front) ++ d ∷ [] = taken ∙ ap (λ l. take old.top.node.first es ++ l) q ∙ sym (append_assoc (take old.top.node.first es) front (d ∷ [])) in
            let same : d.pattern.now ≡ e.pattern.now = sym (built.last (take old.top.node.first es ++ front) d t) ∙ path in
            let tied : slice_cmp nat_cmp d.pattern.now e.pattern.now ≡ Equal = ap (λ p. slice_cmp nat_cmp p e.pattern.now) same ∙ tied_itself nat_list_cmp_total e.pattern.now in
            ap (λ q. ordering_then q (slice_cmp nat_cmp d.key.now e.key.now)) (sym tied) ∙ next.above (take old.top.node.first es ++ front) d t

        by : Snoc own → Ends None f.values (value_of e).key
        by (Empty q) = let P : List Value → Type 0 = λ vs. Ends None vs (value_of e).key in subst P (ap (map value_of) (sym q) ∙ values) tt
        by (Ended front d q) =
            let P : List Value → Type 0 = λ vs. Ends None vs (value_of e).key in
            subst P (sym (mapped_end front d) ∙ ap (map value_of) (sym q) ∙ values) (ends_last None (map value_of front) (value_of d) (value_of e).key (key_of_last front d q))

    -- what is before a pattern that it begins with is the pattern
    same_path : (rest : List ℕ) → full_path fs ≡ e.pattern.now ++ rest → full_path fs ≡ e.pattern.now
    same_path [] q = q ∙ append_none e.pattern.now
    same_path (c ∷ rest) q = absurd (by (snoc (take n es)))
      where
        by : Snoc (take n es) → ⊥
        by (Empty t) = let l = ap length (sym (built.none t) ∙ q) ∙ length-append e.pattern.now (c ∷ rest) in omega (arith, l)
        by (Ended front d t) =
            not_longer e.pattern.now c rest (slice_cmp nat_cmp d.key.now e.key.now)
            (ap (λ p. ordering_then (slice_cmp nat_cmp p e.pattern.now) (slice_cmp nat_cmp d.key.now e.key.now)) (sym q ∙ built.last front d t) ∙ next.above front d t)

    pub added_here : (at : ℕ) → MeetAt at old.path.now e.pattern.now → length e.pattern.now ≤ at → at ≤ length e.pattern.now → (gs : List Frame) × IsBuilt es (n + 1) new gs
    added_here at meet le ge =
        let l = lowest es old fs built.nodes in
        let all : take at e.pattern.now ≡ e.pattern.now = take_all at e.pattern.now le in
        let cut : full_path fs ≡ e.pattern.now ++ drop at old.path.now =
        sym built.path ∙ split old.path.now at ∙ ap (λ p. p ++ drop at old.path.now) (meet.alike ∙ all) in
        let path = same_path (drop at old.path.now) cut in
        let nodes : IsOpen es old (l.f ∷ l.rest) = subst (IsOpen es old) l.is built.nodes in
        extend old new l.f l.rest nodes (ap lowest_done (sym l.is) ∙ built.fresh) built.counted (ap full_path (sym l.is) ∙ path) (more_ends l.f l.rest l.is path)
        (ap spine_values (sym l.is) ∙ built.values) (built.path ∙ path) counts
      where
        split : (xs : List ℕ) (n : ℕ) → xs ≡ take n xs ++ drop n xs
        split xs zero = refl
        split [] (suc n) = refl
        split (x ∷ xs) (suc n) = ap (λ l. x ∷ l) (split xs n)

  -- the entry has another pattern: a leaf is opened for it
  module _ (old mid opened new : Builder) (fs gs : List Frame) (built : IsBuilt es n old fs) (at : ℕ) (meet : MeetAt at old.path.now e.pattern.now) (less : at < length e.pattern.now)
      (closed : IsClosedTo es at old mid fs gs) (opens_it : Opens e.pattern.now n mid opened) (counts : Counts opened new) where
    front_is : full_path gs ≡ take at e.pattern.now
    front_is =
        let f = closed.closed.front in
        let size : at ≡ length (full_path gs) = sym closed.end ∙ lowest_end es mid gs closed.nodes in
        sym (take-append_seam (full_path gs) f.0) ∙ (λ i. take (sym size i) (sym f.1 i)) ∙ ap (take at) (sym built.path) ∙ meet.alike

    pattern_is : e.pattern.now ≡ full_path gs ++ get_or e.pattern.now at 0 ∷ drop (suc at) e.pattern.now
    pattern_is = parts e.pattern.now at less ∙ ap (λ l. l ++ get_or e.pattern.now at 0 ∷ drop (suc at) e.pattern.now) (sym front_is)

    below_it : (rest : List ℕ) → full_path fs ≡ full_path gs ++ rest → AllBelow (get_or e.pattern.now at 0) (lowest_done gs)
    below_it [] q = subst (AllBelow (get_or e.pattern.now at 0)) (sym (closed.closed.same (q ∙ append_none (full_path gs)) ∙ built.fresh)) tt
    below_it (c ∷ rest) q = closed.closed.below c rest (get_or e.pattern.now at 0) q (by (snoc (take n es)))
      where
        old_path : old.path.now ≡ full_path gs ++ c ∷ rest
        old_path = built.path ∙ q

        here : (xs : List ℕ) (d : ℕ) (ys : List ℕ) → get_or (xs ++ d ∷ ys) (length xs) 0 ≡ d
        here [] d ys = refl
        here (x ∷ xs) d ys = here xs d ys

        size : at ≡ length (full_path gs)
        size = sym closed.end ∙ lowest_end es mid gs closed.nodes

        apart : c ≡ get_or e.pattern.now at 0 → ⊥
        apart same =
            let l = ap length old_path ∙ length-append (full_path gs) (c ∷ rest) in
            meet.apart (omega (arith, l, size)) less ((λ i. get_or (old_path i) (size i) 0) ∙ here (full_path gs) c rest ∙ same)

        by : Snoc (take n es) → c < get_or e.pattern.now at 0
        by (Empty t) = let l = ap length (sym (built.none t) ∙ q) ∙ length-append (full_path gs) (c ∷ rest) in absurd (omega (arith, l))
        by (Ended front d t) =
            fork_less (full_path gs) c (get_or e.pattern.now at 0) rest (drop (suc at) e.pattern.now) (slice_cmp nat_cmp d.key.now e.key.now) apart
            ((λ i. ordering_then (slice_cmp nat_cmp ((sym q ∙ built.last front d t) i) (sym pattern_is i)) (slice_cmp nat_cmp d.key.now e.key.now)) ∙ next.above front d t)

    pub added_leaf : (hs : List Frame) × IsBuilt es (n + 1) new hs
    unfolding under
    added_leaf =
        let l = lowest es mid gs closed.nodes in
        let b = get_or e.pattern.now at 0 in
        let rest = drop (suc at) e.pattern.now in
        let nodes : IsOpen es mid (l.f ∷ l.rest) = subst (IsOpen es mid) l.is closed.nodes in
        let pattern : e.pattern.now ≡ full_path (l.f ∷ l.rest) ++ b ∷ rest = pattern_is ∙ ap (λ fs. full_path fs ++ b ∷ rest) l.is in
        let text = text_parts (full_path (l.f ∷ l.rest)) b rest (subst IsText pattern next.storable.text) in
        let size = ap length pattern ∙ length-append (full_path (l.f ∷ l.rest)) (b ∷ rest) in
        let deep = length-append (full_path (l.f ∷ l.rest)) (b ∷ []) in
        let short = next.storable.short in
        let range = next.in_range in
        let below : AllBelow b l.f.done = subst (AllBelow b) (ap lowest_done l.is) (below_it closed.closed.front.0 closed.closed.front.1) in
        let spine = open_spine b rest l.f l.rest nodes.spine text.0 text.1 below (subst IsFilled l.is closed.closed.filled) text.2 (omega (arith, size, deep, short)) in
        let open_nodes = open_open es mid opened e.pattern.now n l.f l.rest nodes opens_it b rest (omega (arith, range)) pattern spine in
        let a = opens_it.first in
        let c = opens_it.count in
        let path : full_path (leaf b rest l.f l.rest ∷ l.f ∷ l.rest) ≡ e.pattern.now = append_assoc (full_path (l.f ∷ l.rest)) (b ∷ []) rest ∙ sym pattern in
        extend opened new (leaf b rest l.f l.rest) (l.f ∷ l.rest) open_nodes refl (omega (arith, a, c)) path tt
        (open_values b rest l.f l.rest ∙ ap spine_values (sym l.is) ∙ closed.closed.values ∙ built.values) opens_it.path counts

-- the root is closed
root_finished : (es : List Setting) (old new : Builder) (fs : List Frame) (f : Frame) (c : Stored) → IsClosedTo es 0 old new fs (f ∷ []) → IsKept new.entries.now new.top.node new.closed c → IsFinished es fs c
unfolding stack under IsSpine spine_values prefix_of
root_finished es old new fs f c is more =
    let s = is.nodes.standing.0 in
    let ns = is.nodes.closed in
    let nodes = ns ++ new.top.node ∷ [] in
    let k = grown es ns nodes new.top.node [] f is.nodes.whole is.nodes.trees refl s.byte s.prefix s.values s.children s.in_range in
    let tree : tree_of es nodes ≡ node_of f = ap first_tree k.trees in
    let spine = is.nodes.spine in
    record {
      nodes = nodes;
      kept = kept_more es ns new.top.node new.closed c is.nodes.kept (kept_among es new.entries.now new.top.node new.closed c is.nodes.entries more) is.nodes.whole (enough es (trees_after es [] ns) [] f.done new.top.node is.nodes.trees s.children) s.in_range;
      order = record { whole = k.whole; one = ap length k.trees };
      sound = subst IsSound (sym tree) (record { ordered = spine.0; root = spine.2; storable = spine.1 });
      values = ap (values_under []) tree ∙ is.closed.values;
    }

-- all is closed
pub finished : (es : List Setting) (old new : Builder) (fs gs : List Frame) (c : Stored) → IsClosedTo es 0 old new fs gs → IsKept new.entries.now new.top.node new.closed c → IsFinished es fs c
finished es old new fs [] c is more = absurd is.nodes.standing
finished es old new fs (f ∷ g ∷ hs) c is more =
    let n = sym is.end ∙ lowest_end es new (f ∷ g ∷ hs) is.nodes ∙ length-append (under (g ∷ hs) f.byte) f.prefix in
    let u = length-under g hs f.byte in
    absurd (omega (arith, n, u))
finished es old new fs (f ∷ []) c is more = root_finished es old new fs f c is more

-- no node is open above one whose path is empty
pub none_above : (es : List Setting) (old new : Builder) (fs gs : List Frame) → IsClosedTo es 0 old new fs gs → (above : List OpenBranch) (g : OpenBranch) → new.above.items ≡ above ++ g ∷ [] → ⊥
none_above es old new fs gs is above g e =
    let a = above_it es new gs is.nodes above g e in
    let n = sym is.end ∙ lowest_end es new gs is.nodes ∙ ap (λ l. length (full_path l)) a.is ∙ length-append (under (a.h ∷ a.hs) a.f.byte) a.f.prefix in
    let u = length-under a.h a.hs a.f.byte in
    omega (arith, n, u)

-- the entry with a number
all_below : (e : Setting) (before : List Setting) (d : Setting) (rest : List Setting) → IsStrictlySortedBy by_place (before ++ d ∷ e ∷ rest) → by_place d e ≡ Less
unfolding IsStrictlySortedBy
all_below e [] d rest s = s.0.0
all_below e (x ∷ before) d rest s = all_below e before d rest s.1

entry_parts : (es : List Setting) (n : ℕ) (e : Setting) → n < length es → e ≡ get_or es n e → es ≡ take n es ++ e ∷ drop (suc n) es
entry_parts [] n e less is = absurd (omega (arith, less))
entry_parts (x ∷ es) zero e less is = ap (λ y. y ∷ es) (sym is)
entry_parts (x ∷ es) (suc n) e less is = ap (λ l. x ∷ l) (entry_parts es n e (omega (arith, less)) is)

entry_storable : (es : List Setting) (n : ℕ) (e : Setting) → n < length es → e ≡ get_or es n e → AllByRecursion IsStorableEntry es → IsStorableEntry e
entry_storable [] n e less is a = absurd (omega (arith, less))
entry_storable (x ∷ es) zero e less is a = subst IsStorableEntry (sym is) a.0
entry_storable (x ∷ es) (suc n) e less is a = entry_storable es n e (omega (arith, less)) is a.1

entry_taken : (es : List Setting) (n : ℕ) (e : Setting) → n < length es → e ≡ get_or es n e → take (suc n) es ≡ take n es ++ e ∷ []
entry_taken [] n e less is = absurd (omega (arith, less))
entry_taken (x ∷ es) zero e less is = ap (λ y. y ∷ []) (sym is)
entry_taken (x ∷ es) (suc n) e less is = ap (λ l. x ∷ l) (entry_taken es n e (omega (arith, less)) is)

pub next_is : (es : List Setting) (n : ℕ) (e : Setting) → n < length es → e ≡ get_or es n e → IsStrictlySortedBy by_place es → AllByRecursion IsStorableEntry es → IsNext es n e
next_is es n e less is sorted storable = record {
  in_range = less;
  taken = let m : n + 1 ≡ suc n = omega arith in ap (λ i. take i es) m ∙ entry_taken es n e less is;
  storable = entry_storable es n e less is storable;
  above = λ before d t.
      let whole : es ≡ before ++ d ∷ e ∷ drop (suc n) es = entry_parts es n e less is ∙ ap (λ l. l ++ e ∷ drop (suc n) es) t ∙ append_assoc before (d ∷ []) (e ∷ drop (suc n) es) in
      all_below e before d (drop (suc n) es) (subst (IsStrictlySortedBy by_place) whole sorted);
}

-- all entries are added
pub all_values : (es : List Setting) (n : ℕ) (fs : List Frame) → length es ≤ n → spine_values fs ≡ map placed (take n es) → spine_values fs ≡ map placed es
all_values es n fs le e = e ∙ ap (map placed) (take_all n es le)

-- what a loop reads after the end
abbrev pub blank : Setting
blank = record {
  pattern = record { ref_ptr = (0, 0); now = [] };
  key = record { ref_ptr = (0, 0); now = [] };
  value = record { ref_ptr = (0, 0); now = [] };
  path = record { ref_ptr = (0, 0); now = [] };
  line = 0;
  priority = 0;
}

pub next_at : (es : List Setting) (n : ℕ) → n < length es → IsStrictlySortedBy by_place es → AllByRecursion IsStorableEntry es → IsNext es n (get_or es n blank)
next_at es n less = next_is es n (get_or es n blank) less (get_or_default es n blank (get_or es n blank) less)
