-- What closing, cutting and opening make of the frames of a path.
use Rattle.std.proofs.Common.{◌≡◌, ◌<◌, ◌≤◌, ℕ, suc, ◌+◌, List, [], ◌∷◌, ◌++◌, length, length-append, map, refl, sym, ◌∙◌, ap, subst, arith, append_assoc, None, Some, Option}
use Rattle.std.specs.List.{AllByRecursion}
use Rattle.hwdb_spec.specs.Lines.{max_pattern}
use Rattle.hwdb_spec.specs.Tree.{Value, Tree, count, IsTree, BytesAscend, KeysAscend, IsAbove, values_under, values_below}
use Rattle.hwdb_spec.specs.Tree.Tree.{Node}
use Rattle.hwdb_spec.specs.Written.{IsForked}
use Rattle.hwdb_writer.specs.Internal.Storable.{IsText, IsStorableValue, IsStorable, AreStorable}
use Rattle.hwdb_writer.specs.Internal.PostOrder.{Sub, children_in}
use Rattle.hwdb_writer.specs.Internal.Spine.{Frame, node_of, under, full_path, spine_values, AllBelow, IsFilled, IsForkedTop, Hangs, IsSpine}

pub count-in : (ts : List Sub) → count (children_in ts) ≡ length ts
unfolding count
count-in [] = refl
count-in (t ∷ ts) = ap suc (count-in ts)

pub append_none : {A : Type 0} (xs : List A) → xs ++ [] ≡ xs
append_none [] = refl
append_none (x ∷ xs) = ap (λ ys. x ∷ ys) (append_none xs)

-- one more child on the right
bytes_more : (before : ℕ) (ts : List Sub) (b : ℕ) (t : Tree) → before < b → AllBelow b ts → IsTree t → BytesAscend before (children_in ts) → BytesAscend before (children_in (ts ++ (b, t) ∷ []))
unfolding IsTree
bytes_more before [] b t lt a is h = (lt, is, tt)
bytes_more before (p ∷ ts) b t lt a is h = (h.0, h.1, bytes_more p.0 ts b t a.0 a.1 is h.2)

storable_more : (used : ℕ) (ts : List Sub) (b : ℕ) (t : Tree) → b < 256 → IsForked t → IsStorable used t → AreStorable used (children_in ts) → AreStorable used (children_in (ts ++ (b, t) ∷ []))
unfolding IsStorable
storable_more used [] b t small f s h = (small, f, s, tt)
storable_more used (p ∷ ts) b t small f s h = (h.0, h.1, h.2, storable_more used ts b t small f s h.3)

values_more : (path : List ℕ) (ts : List Sub) (b : ℕ) (t : Tree) → values_below path (children_in (ts ++ (b, t) ∷ [])) ≡ values_below path (children_in ts) ++ values_under (path ++ b ∷ []) t
unfolding values_under
values_more path [] b t = append_none (values_under (path ++ b ∷ []) t)
values_more path (p ∷ ts) b t =
    ap (λ l. values_under (path ++ p.0 ∷ []) p.1 ++ l) (values_more path ts b t)
    ∙ sym (append_assoc (values_under (path ++ p.0 ∷ []) p.1) (values_below path (children_in ts)) (values_under (path ++ b ∷ []) t))

pub below_more : (b c : ℕ) (ts : List Sub) (t : Tree) → AllBelow b ts → b < c → AllBelow c (ts ++ (b, t) ∷ [])
below_more b c [] t a lt = (lt, tt)
below_more b c (p ∷ ts) t a lt = (omega (arith, a.0, lt), below_more b c ts t a.1 lt)

-- the frame with one more child
abbrev pub with_child : Frame → Sub → Frame
with_child g x = record { byte = g.byte; prefix = g.prefix; values = g.values; done = g.done ++ x ∷ [] }

pub length-under : (g : Frame) (gs : List Frame) (b : ℕ) → length (under (g ∷ gs) b) ≡ length (under gs g.byte) + length g.prefix + 1
unfolding under
length-under g gs b = length-append (under gs g.byte ++ g.prefix) (b ∷ []) ∙ ap (λ n. n + 1) (length-append (under gs g.byte) g.prefix)

-- what the lowest is closed to
module _ (f g : Frame) (gs : List Frame) where
  abbrev pub closed_frame : Frame
  closed_frame = with_child g (f.byte, node_of f)

  pub close_values : spine_values (closed_frame ∷ gs) ≡ spine_values (f ∷ g ∷ gs)
  unfolding spine_values values_under under
  close_values =
      let p = under gs g.byte in
      ap (λ l. spine_values gs ++ (map (λ (v : Value). (p ++ g.prefix, v)) g.values ++ l)) (values_more (p ++ g.prefix) g.done f.byte (node_of f))
      ∙ (simp append_assoc)

  pub close_spine : IsSpine (f ∷ g ∷ gs) → IsForked (node_of f) → IsSpine (closed_frame ∷ gs)
  unfolding IsSpine IsTree IsStorable
  close_spine s forked =
      let h = s.2 in
      let rest = s.3 in
      let e = length-under g gs f.byte in
      let mine : IsStorable (length (under gs g.byte) + length g.prefix + 1) (node_of f) = let P : ℕ → Type 0 = λ n. IsStorable n (node_of f) in subst P e s.1 in (
        (rest.0.0, bytes_more 0 g.done f.byte (node_of f) h.0 h.2 s.0 rest.0.1),
        (rest.1.0, rest.1.1, rest.1.2, storable_more _ g.done f.byte (node_of f) h.1 forked mine rest.1.3),
        rest.2,
        rest.3,
      )

  pub close_path : full_path (f ∷ g ∷ gs) ≡ full_path (closed_frame ∷ gs) ++ f.byte ∷ f.prefix
  unfolding under
  close_path = append_assoc (under gs g.byte ++ g.prefix) (f.byte ∷ []) f.prefix

  pub close_forked : IsSpine (f ∷ g ∷ gs) → IsForkedTop (closed_frame ∷ gs)
  unfolding IsSpine IsForked
  close_forked s = by gs s.2.3
    where
      by : (gs : List Frame) → IsFilled (g ∷ gs) → IsForkedTop (closed_frame ∷ gs)
      by [] h = tt
      by (x ∷ xs) h =
          let c = count-in (g.done ++ (f.byte, node_of f) ∷ []) in
          let l = length-append g.done ((f.byte, node_of f) ∷ []) in
          omega (arith, h, c, l)

-- the lowest is cut
module _ (b : ℕ) (front : List ℕ) (c : ℕ) (back : List ℕ) (values : List Value) (done : List Sub) (fs : List Frame) where
  abbrev pub whole_frame : Frame
  whole_frame = record { byte = b; prefix = front ++ c ∷ back; values = values; done = done }

  abbrev pub cut_frame : Frame
  cut_frame = record { byte = b; prefix = front; values = []; done = (c, Node back values (children_in done)) ∷ [] }

  pub cut_values : spine_values (cut_frame ∷ fs) ≡ spine_values (whole_frame ∷ fs)
  unfolding spine_values values_under
  cut_values =
      let p = under fs b in
      let e : (((p ++ front) ++ c ∷ []) ++ back) ≡ p ++ (front ++ c ∷ back) = (simp append_assoc) in
      ap (λ l. spine_values fs ++ l) (append_none (map (λ (v : Value). (((p ++ front) ++ c ∷ []) ++ back, v)) values ++ values_below (((p ++ front) ++ c ∷ []) ++ back) (children_in done))
      ∙ ap (λ q. map (λ (v : Value). (q, v)) values ++ values_below q (children_in done)) e)

  text_front : (xs ys : List ℕ) → IsText (xs ++ ys) → IsText xs
  text_front [] ys t = tt
  text_front (x ∷ xs) ys t = (t.0, t.1, text_front xs ys t.2)

  text_back : (xs ys : List ℕ) → IsText (xs ++ ys) → IsText ys
  text_back [] ys t = t
  text_back (x ∷ xs) ys t = text_back xs ys t.2

  pub cut_spine : IsSpine (whole_frame ∷ fs) → IsForked (node_of whole_frame) → 0 < length (under fs b) → IsSpine (cut_frame ∷ fs)
  unfolding IsSpine IsTree IsStorable under IsForked
  cut_spine s forked deep =
      let t = text_back front (c ∷ back) s.1.0 in
      let l = length-append front (c ∷ back) in
      let used = length (under fs b) in
      let kids : AreStorable (used + length front + 1 + length back + 1) (children_in done) =
      let P : ℕ → Type 0 = λ n. AreStorable n (children_in done) in
      let e : used + length (front ++ c ∷ back) + 1 ≡ used + length front + 1 + length back + 1 = omega (arith, l) in
      subst P e s.1.3 in
      let short = s.1.1 in (
        (tt, (t.0, s.0, tt)),
        (text_front front (c ∷ back) s.1.0, omega (arith, l, short), tt, (t.1, forked, (t.2, omega (arith, l, short), s.1.2, kids), tt)),
        hung fs s.2 deep,
        s.3,
      )
    where
      hung : (gs : List Frame) → Hangs whole_frame gs → 0 < length (under gs b) → Hangs cut_frame gs
      hung [] h deep = absurd (omega (arith, deep))
      hung (g ∷ gs) h deep = h

  pub cut_path : full_path (whole_frame ∷ fs) ≡ full_path (cut_frame ∷ fs) ++ c ∷ back
  cut_path = sym (append_assoc (under fs b) front (c ∷ back))

-- a leaf is opened, and has its first value
module _ (b : ℕ) (prefix : List ℕ) (g : Frame) (gs : List Frame) where
  abbrev pub leaf : Frame
  leaf = record { byte = b; prefix = prefix; values = []; done = [] }

  pub open_values : spine_values (leaf ∷ g ∷ gs) ≡ spine_values (g ∷ gs)
  unfolding spine_values values_under
  open_values = append_none (spine_values (g ∷ gs))

  pub open_spine : IsSpine (g ∷ gs) → 0 < b → b < 256 → AllBelow b g.done → IsFilled (g ∷ gs) → IsText prefix → length (under (g ∷ gs) b) + length prefix ≤ max_pattern → IsSpine (leaf ∷ g ∷ gs)
  unfolding IsSpine IsTree IsStorable
  open_spine s some small below filled text short = ((tt, tt), (text, short, tt, tt), (some, small, below, filled), s)

-- one more value
abbrev pub with_value : Frame → Value → Frame
with_value f v = record { byte = f.byte; prefix = f.prefix; values = f.values ++ v ∷ []; done = f.done }

-- the last of the keys, if there is one, is below
abbrev pub Ends : Option (List ℕ) → List Value → List ℕ → Type 0
Ends before [] key = IsAbove before key
Ends before (v ∷ vs) key = Ends (Some v.key) vs key

keys_more : (before : Option (List ℕ)) (vs : List Value) (v : Value) → Ends before vs v.key → KeysAscend before vs → KeysAscend before (vs ++ v ∷ [])
keys_more before [] v e h = (e, tt)
keys_more before (w ∷ vs) v e h = (h.0, keys_more (Some w.key) vs v e h.1)

all_more : (vs : List Value) (v : Value) → IsStorableValue v → AllByRecursion IsStorableValue vs → AllByRecursion IsStorableValue (vs ++ v ∷ [])
all_more [] v s a = (s, tt)
all_more (w ∷ vs) v s a = (a.0, all_more vs v s a.1)

abbrev at_path : List ℕ → List Value → List (List ℕ × Value)
at_path p vs = map (λ v. (p, v)) vs

map_more : (p : List ℕ) (vs : List Value) (v : Value) → at_path p (vs ++ v ∷ []) ≡ at_path p vs ++ (p, v) ∷ []
map_more p [] v = refl
map_more p (w ∷ vs) v = ap (λ l. (p, w) ∷ l) (map_more p vs v)

module _ (b : ℕ) (prefix : List ℕ) (values : List Value) (fs : List Frame) (v : Value) where
  abbrev pub before_it : Frame
  before_it = record { byte = b; prefix = prefix; values = values; done = [] }

  pub value_spine : IsSpine (before_it ∷ fs) → IsStorableValue v → Ends None values v.key → IsSpine (with_value before_it v ∷ fs)
  unfolding IsSpine IsTree IsStorable
  value_spine s is e = ((keys_more None values v e s.0.0, s.0.1), (s.1.0, s.1.1, all_more values v is s.1.2, s.1.3), hung fs s.2, s.3)
    where
      hung : (gs : List Frame) → Hangs before_it gs → Hangs (with_value before_it v) gs
      hung [] h = h
      hung (g ∷ gs) h = h

  pub value_values : spine_values (with_value before_it v ∷ fs) ≡ spine_values (before_it ∷ fs) ++ (full_path (before_it ∷ fs), v) ∷ []
  unfolding spine_values values_under
  value_values =
      let p = under fs b ++ prefix in
      ap (λ l. spine_values fs ++ l) (append_none (at_path p (values ++ v ∷ [])) ∙ map_more p values v)
      ∙ sym (append_assoc (spine_values fs) (at_path p values) ((p, v) ∷ []))
      ∙ ap (λ l. (spine_values fs ++ l) ++ (p, v) ∷ []) (sym (append_none (at_path p values)))
