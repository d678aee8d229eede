-- What is open is closed or cut, until a path has so many bytes.
use Rattle.std.proofs.Common.{◌≡◌, ◌<◌, ◌≤◌, ℕ, zero, suc, ◌+◌, ◌-◌, List, [], ◌∷◌, ◌++◌, length, length-append, take, drop, reverse, get_or, refl, sym, ◌∙◌, ap, subst, arith, append_assoc}
use Rattle.hwdb_spec.specs.Written.{IsForked}
use Rattle.hwdb_writer.specs.Internal.Spine.{Frame, node_of, under, full_path, spine_values, AllBelow, IsFilled, IsForkedTop, IsSpine, AreStanding, IsOpen, lowest_done, IsClosed, IsClosable, IsClosing, Closes, Cuts}
use Rattle.hwdb_writer.specs.declared.entries.Setting.{Setting}
use Rattle.hwdb_writer.specs.declared.builder.OpenBranch.{OpenBranch}
use Rattle.hwdb_writer.specs.declared.builder.Builder.{Builder}
use Rattle.hwdb_writer.proofs.SpineLemmas.{count-in, append_none, closed_frame, close_values, close_path, close_forked, whole_frame, cut_frame, cut_values, cut_path, length-under, below_more}
use Rattle.hwdb_writer.proofs.OpenLemmas.{above_it, close_open, cut_open, lowest_end, last_is}
use Rattle.hwdb_spec.specs.Lemmas.Lists.{same_byte}

pub forked_filled : (fs : List Frame) → IsForkedTop fs → IsFilled fs
unfolding IsForked
forked_filled [] h = tt
forked_filled (f ∷ []) h = tt
forked_filled (f ∷ g ∷ gs) h = let c = count-in f.done in omega (arith, h, c)

same_length : (xs : List ℕ) (c : ℕ) (ys : List ℕ) → xs ≡ xs ++ c ∷ ys → ⊥
same_length xs c ys e = let l = ap length e ∙ length-append xs (c ∷ ys) in omega (arith, l)

first_of : ℕ → List ℕ → ℕ
first_of d [] = d
first_of d (x ∷ xs) = x

-- one more is closed or cut, after others
closed_more : (old mid new : List Frame) (c : ℕ) (rest : List ℕ) → IsClosed old mid → spine_values new ≡ spine_values mid → full_path mid ≡ full_path new ++ c ∷ rest → IsFilled new
    → ((b : ℕ) → c < b → AllBelow b (lowest_done new)) → IsClosed old new
closed_more old mid new c rest is v p filled below =
    let r = is.front.0 in
    let q : full_path old ≡ full_path new ++ c ∷ (rest ++ r) = is.front.1 ∙ ap (λ l. l ++ r) p ∙ append_assoc (full_path new) (c ∷ rest) r in
    record {
      values = v ∙ is.values;
      front = (c ∷ (rest ++ r), q);
      filled = filled;
      same = λ e. absurd (same_length (full_path new) c (rest ++ r) (sym e ∙ q));
      below = λ d more b e lt. let s = same_byte (full_path new) (rest ++ r) more c d (sym q ∙ e) in below b (omega (arith, s, lt));
    }

pub start : (es : List Setting) (at : ℕ) (b : Builder) (fs : List Frame) → IsClosable es b fs → at ≤ b.top.end → IsClosing es at b b fs fs
start es at b fs is le = record {
  nodes = is.nodes;
  closed = record {
    values = refl;
    front = ([], sym (append_none (full_path fs)));
    filled = forked_filled fs is.forked;
    same = λ e. refl;
    below = λ c rest d e lt. absurd (same_length (full_path fs) c rest e);
  };
  within = le;
  forked = λ lt. is.forked;
  path = refl;
}

module _ (es : List Setting) (at : ℕ) (old now next : Builder) (fs gs : List Frame) (is : IsClosing es at old now fs gs) (lt : at < now.top.end) where
  -- the lowest is closed, since its parent's path has as many bytes
  module _ (above : List OpenBranch) (g : OpenBranch) (e : now.above.items ≡ above ++ g ∷ []) (reaches : at ≤ g.end) (closes : Closes now next) where
    pub close_step : (hs : List Frame) × IsClosing es at old next fs hs
    unfolding IsSpine
    close_step =
        let a = above_it es now gs is.nodes above g e in
        let nodes : IsOpen es now (a.f ∷ a.h ∷ a.hs) = subst (IsOpen es now) a.is is.nodes in
        let forked : IsForked (node_of a.f) = subst IsForkedTop a.is (is.forked lt) in
        let closed : IsClosed fs (a.f ∷ a.h ∷ a.hs) = subst (IsClosed fs) a.is is.closed in
        let made = closes.parent above g e in
        let top_forked = close_forked a.f a.h a.hs nodes.spine in (
          closed_frame a.f a.h a.hs ∷ a.hs,
          record {
            nodes = close_open es now next a.f a.h a.hs nodes closes forked;
            closed = closed_more fs (a.f ∷ a.h ∷ a.hs) (closed_frame a.f a.h a.hs ∷ a.hs) a.f.byte a.f.prefix closed (close_values a.f a.h a.hs) (close_path a.f a.h a.hs)
                (forked_filled (closed_frame a.f a.h a.hs ∷ a.hs) top_forked) (λ b less. below_more a.f.byte b a.h.done (node_of a.f) nodes.spine.2.2 less);
            within = let t = ap (λ (o : OpenBranch). o.end) made.1 in omega (arith, t, reaches);
            forked = λ _. top_forked;
            path = closes.path ∙ is.path;
          },
        )

    -- the path is shorter
    pub close_shorter : next.top.end < now.top.end
    close_shorter =
        let a = above_it es now gs is.nodes above g e in
        let made = closes.parent above g e in
        let t = ap (λ (o : OpenBranch). o.end) made.1 in
        let n = lowest_end es now gs is.nodes ∙ ap (λ l. length (full_path l)) a.is ∙ length-append (under (a.h ∷ a.hs) a.f.byte) a.f.prefix in
        let u = length-under a.h a.hs a.f.byte in
        let p = a.end ∙ length-append (under a.hs a.h.byte) a.h.prefix in
        omega (arith, t, n, u, p)

  -- no parent's path has as many bytes
  module _ (short : (above : List OpenBranch) (g : OpenBranch) → now.above.items ≡ above ++ g ∷ [] → g.end < at) where
    record Inside : Type 0 where
      f : Frame
      rest : List Frame
      is_now : gs ≡ f ∷ rest
      begins : length (under rest f.byte) ≤ at
      deep : 0 < length (under rest f.byte)

    inside_by : (fs : List Frame) → gs ≡ fs → IsOpen es now fs → Inside
    unfolding under IsSpine
    inside_by [] e nodes = absurd nodes.standing
    inside_by (f ∷ []) e nodes =
        let n = lowest_end es now (f ∷ []) nodes in
        let p = ap length nodes.spine.2 in
        absurd (omega (arith, n, p, lt))
    inside_by (f ∷ h ∷ hs) e nodes = by (reverse now.above.items) refl nodes.standing.2
      where
        by : (os : List OpenBranch) → reverse now.above.items ≡ os → AreStanding es os (h ∷ hs) → Inside
        by [] r s = absurd s
        by (o ∷ os) r s =
            let l = last_is now.above.items o os r in
            let less = short l.front o l.is in
            let p = s.1 ∙ length-append (under hs h.byte) h.prefix in
            let u = length-under h hs f.byte in
            record { f = f; rest = h ∷ hs; is_now = e; begins = omega (arith, less, p, u); deep = omega (arith, u) }

    inside : Inside
    inside = inside_by gs refl is.nodes

    pub cut_room : now.top.end ≤ at + length now.top.node.prefix.now
    cut_room =
        let i = inside in
        let nodes : IsOpen es now (i.f ∷ i.rest) = subst (IsOpen es now) i.is_now is.nodes in
        let n = nodes.standing.1 ∙ length-append (under i.rest i.f.byte) i.f.prefix in
        let p = ap length nodes.standing.0.prefix in
        let b = i.begins in
        omega (arith, n, p, b)

    module _ (cuts : Cuts at now next) where
      pub cut_step : (hs : List Frame) × IsClosing es at old next fs hs
      unfolding under
      cut_step =
          let i = inside in
          let nodes : IsOpen es now (i.f ∷ i.rest) = subst (IsOpen es now) i.is_now is.nodes in
          let forked : IsForkedTop (i.f ∷ i.rest) = subst IsForkedTop i.is_now (is.forked lt) in
          let closed : IsClosed fs (i.f ∷ i.rest) = subst (IsClosed fs) i.is_now is.closed in
          let n = nodes.standing.1 ∙ length-append (under i.rest i.f.byte) i.f.prefix in
          let k = at - length (under i.rest i.f.byte) in
          let begins = i.begins in
          let within : k < length i.f.prefix = omega (arith, n, begins, lt) in
          let left = take k i.f.prefix in
          let c = get_or i.f.prefix k 0 in
          let back = drop (suc k) i.f.prefix in
          let e : i.f.prefix ≡ left ++ c ∷ back = parts i.f.prefix k within in
          let size : length left ≡ k = taken i.f.prefix k within in
          let w : i.f ≡ whole_frame i.f.byte left c back i.f.values i.f.done i.rest = λ j. record { byte = i.f.byte; prefix = e j; values = i.f.values; done = i.f.done } in (
            cut_frame i.f.byte left c back i.f.values i.f.done i.rest ∷ i.rest,
            record {
              nodes = cut_open es now next at 0 i.f i.rest nodes cuts left c back e (omega (arith, begins, size)) (node_forked i.f i.rest forked i.deep) i.deep;
              closed = closed_more fs (i.f ∷ i.rest) (cut_frame i.f.byte left c back i.f.values i.f.done i.rest ∷ i.rest) c back closed
                  (cut_values i.f.byte left c back i.f.values i.f.done i.rest ∙ ap (λ (h : Frame). spine_values (h ∷ i.rest)) (sym w))
                  (ap (λ (h : Frame). full_path (h ∷ i.rest)) w ∙ cut_path i.f.byte left c back i.f.values i.f.done i.rest)
                  (filled (cut_frame i.f.byte left c back i.f.values i.f.done i.rest) i.rest (omega arith)) (λ b less. (less, tt));
              within = let t = cuts.end in omega (arith, t);
              forked = λ less. let t = cuts.end in absurd (omega (arith, t, less));
              path = cuts.path ∙ is.path;
            },
          )
        where
          parts : (xs : List ℕ) (n : ℕ) → n < length xs → xs ≡ take n xs ++ get_or xs n 0 ∷ drop (suc n) xs
          parts [] n less = absurd (omega (arith, less))
          parts (x ∷ xs) zero less = refl
          parts (x ∷ xs) (suc n) less = ap (λ l. x ∷ l) (parts xs n (omega (arith, less)))

          taken : (xs : List ℕ) (n : ℕ) → n < length xs → length (take n xs) ≡ n
          taken [] n less = absurd (omega (arith, less))
          taken (x ∷ xs) zero less = refl
          taken (x ∷ xs) (suc n) less = ap suc (taken xs n (omega (arith, less)))

          filled : (h : Frame) (rest : List Frame) → 0 < length h.values + length h.done → IsFilled (h ∷ rest)
          filled h [] some = tt
          filled h (g ∷ gs) some = some

          node_forked : (f : Frame) (rest : List Frame) → IsForkedTop (f ∷ rest) → 0 < length (under rest f.byte) → IsForked (node_of f)
          node_forked f [] h deep = absurd (omega (arith, deep))
          node_forked f (g ∷ gs) h deep = h
